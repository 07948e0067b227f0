-- Goals of `fast_var::spaces_end` that the search leaves.
use Rattle.std.proofs.Common.{arith}
use Rattle.fast_var.proofs.Places.{gap_more}
use Rattle.fast_var.proofs.spaces_end.Goals as goal

pub loop-i-init : goal.loop-i-init
loop-i-init c = record { past = omega arith; inside = omega arith; spaces = λ i l u. absurd (omega arith) }

pub returns-then-input-i-ne32 : goal.returns-then-input-i-ne32
returns-then-input-i-ne32 c = c.loop-i.invariant

pub loop-i-preserved : goal.loop-i-preserved
loop-i-preserved c = gap_more _ _ _ c.loop-i.invariant c.loop-i-test.true c.if-input-i-ne32.false

pub returns : goal.returns
returns c = c.loop-i.invariant
