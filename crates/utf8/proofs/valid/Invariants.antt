-- What the loops of `utf8::valid` keep.
use Rattle.utf8.proofs.WellFormed.{Read}
use Rattle.utf8.proofs.valid.Given as goal

abbrev pub invariant-loop-b : goal.invariant-loop-b
invariant-loop-b l = Read l.b-items l.d l.b-index
