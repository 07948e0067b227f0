-- What the loops of `fast_var::digits` keep.
use Rattle.fast_var.proofs.Indexes.{Counted}
use Rattle.fast_var.proofs.digits.Given as goal

abbrev pub invariant-loop-i : goal.invariant-loop-i
invariant-loop-i l = Counted l.input l.at l.i l.v
