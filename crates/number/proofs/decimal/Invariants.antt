-- What the loops of `number::decimal` keep.
use Rattle.number.proofs.Filling.{Filled}
use Rattle.number.proofs.decimal.Given as goal

abbrev pub invariant-loop-i : goal.invariant-loop-i
invariant-loop-i l = Filled l.n l.initial.bytes l.bytes l.rest l.i
