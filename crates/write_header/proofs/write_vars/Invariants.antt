-- What the loops of `write_header::write_vars` keep.
use Prim.Native.Nat.{◌≤◌}
use mathlib.Core.Path.{◌≡◌}
use lib.ListN.{length}
use Rattle.write_header.proofs.Items.{Run}
use Rattle.write_header.proofs.write_vars.Given as goal

abbrev pub invariant-loop-i : goal.invariant-loop-i
invariant-loop-i l =
    (l.place ≤ length l.out) × (length l.out ≡ length l.initial.out) × Run l.src l.rows l.n l.from l.initial.out l.at l.initial.v l.i l.out l.place l.v
