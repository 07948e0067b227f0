-- What the loops of `tree::good_table` keep.
use Prim.Native.Nat.{◌≤◌}
use mathlib.Core.Path.{◌≡◌}
use Rattle.rows.specs.Good.{is_good_from, is_good_table}
use Rattle.rows.specs.Rows.{top, rows_of}
use Rattle.tree.specs.Chain.{chain, base, Under}
use Rattle.tree.specs.Chain.{rest}
use Rattle.tree.proofs.good_table.Given as goal

abbrev pub invariant-loop-i : goal.invariant-loop-i
invariant-loop-i l =
    (l.spot.depth ≤ 64) × (base l.rows l.spot.cur l.spot.depth ≡ top) × Under l.rows l.spot.cur l.spot.depth
    × (is_good_table (rows_of l.rows l.n) ≡ is_good_from l.i (chain l.rows l.spot.cur l.spot.depth) (rest l.rows l.n l.i))
