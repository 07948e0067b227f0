-- What the loops of `fast_var::spaces_end` keep.
use Rattle.std.proofs.Common.{◌-◌, length}
use Rattle.fast_var.specs.FastVar.{Gap}
use Rattle.fast_var.proofs.spaces_end.Given as goal

abbrev pub invariant-loop-i : goal.invariant-loop-i
invariant-loop-i l = Gap l.input l.at l.i

abbrev pub decreases-loop-i : goal.decreases-loop-i
decreases-loop-i l = length l.input - l.i
