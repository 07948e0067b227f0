-- What the loops of `number::put_decimal` keep.
use Rattle.number.proofs.Filling.{Filled}
use Rattle.number.proofs.put_decimal.Given as goal

abbrev pub invariant-loop-i : goal.invariant-loop-i
invariant-loop-i l = Filled l.n l.initial.out l.out l.rest l.i
