-- What the loops of `header::take_vars` keep.
use mathlib.Core.Path.{◌≡◌}
use lib.ListN.{length}
use Rattle.token.specs.Read.{Valid}
use Rattle.header.specs.Level.{Passes}
use Rattle.header.proofs.take_vars.Given as goal

abbrev pub invariant-loop-n : goal.invariant-loop-n
invariant-loop-n l =
    Valid l.input l.cur × (length l.rows ≡ length l.initial.rows) × Passes l.input l.cap l.parent l.initial.cur l.initial.rows l.made l.cur l.n l.rows
