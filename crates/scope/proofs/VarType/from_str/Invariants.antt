-- What the loops of `scope::VarType::from_str` keep.
use Rattle.scope.proofs.VarNames.{NotBefore}
use Rattle.scope.proofs.VarType.from_str.Given as goal

abbrev pub invariant-loop-e : goal.invariant-loop-e
invariant-loop-e l = NotBefore l.s l.e-index
