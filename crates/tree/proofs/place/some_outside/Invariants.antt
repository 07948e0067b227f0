-- What the loops of `tree::place::some_outside` keep.
use mathlib.Core.Path.{◌≡◌}
use Rattle.rows.specs.Rows.{rows_of}
use Rattle.tree.specs.Chain.{rest}
use Rattle.tree.specs.Place.{some_outside}
use Rattle.tree.proofs.place.some_outside.Given as goal

abbrev pub invariant-loop-i : goal.invariant-loop-i
invariant-loop-i l = some_outside l.src (rows_of l.rows l.count) ≡ some_outside l.src (rest l.rows l.count l.i)
