-- What the loops of `number::digits_most` keep.
use Rattle.number.proofs.Reading.{ReadTo}
use Rattle.number.proofs.digits_most.Given as goal

abbrev pub invariant-loop-b : goal.invariant-loop-b
invariant-loop-b l = ReadTo l.s l.most l.v l.b-index
