-- What the loops of `token::values_end` keep.
use Prim.Native.Nat.{◌-◌}
use lib.ListN.{length}
use Rattle.token.proofs.Words.{ValuesTo}
use Rattle.token.proofs.values_end.Given as goal

abbrev pub invariant-loop-i : goal.invariant-loop-i
invariant-loop-i l = ValuesTo l.input l.at l.i

abbrev pub decreases-loop-i : goal.decreases-loop-i
decreases-loop-i l = length l.input - l.i
