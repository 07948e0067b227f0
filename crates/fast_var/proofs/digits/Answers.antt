-- Goals of `fast_var::digits` that the search leaves.
use Rattle.std.proofs.Common.{arith}
use Rattle.fast_var.proofs.Indexes.{counted_none, counted-more}
use Rattle.fast_var.proofs.digits.Goals as goal

pub loop-i-init : goal.loop-i-init
loop-i-init c = counted_none _ _ c.requires.0

pub loop-i-preserved : goal.loop-i-preserved
loop-i-preserved c =
    let b = c.if-not-is_ascii_digit.ensures.cases in
    counted-more _ _ _ _ c.loop-i.invariant (omega (arith, c.loop-i.auto)) c.if-at-i-2.false (omega (arith, b)) (omega (arith, b))
