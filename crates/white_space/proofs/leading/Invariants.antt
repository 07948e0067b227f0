-- What the loops of `white_space::leading` keep.
use Prim.Native.Nat.{◌-◌}
use lib.ListN.{length}
use Rattle.white_space.proofs.Trimming.{Skipped}
use Rattle.white_space.proofs.leading.Given as goal

abbrev pub invariant-loop-i : goal.invariant-loop-i
invariant-loop-i l = Skipped l.s l.i

abbrev pub decreases-loop-i : goal.decreases-loop-i
decreases-loop-i l = length l.s - l.i
