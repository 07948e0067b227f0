-- Goals of `token::pairs_end` that the search leaves.
use native.Mathlib.Omega.{arith}
use Rattle.token.proofs.Words.{values-more, values-two, pair-value}
use Rattle.token.proofs.pairs_end.Goals as goal

pub returns-then-input-i-ne24-2 : goal.returns-then-input-i-ne24-2
returns-then-input-i-ne24-2 c =
    values-more _ _ _ c.loop-i.invariant (omega arith) (pair-value _ c.if-input-i-ne24.false)

pub loop-i-preserved : goal.loop-i-preserved
loop-i-preserved c =
    values-two _ _ _ c.loop-i.invariant (omega arith) c.if-input-i-ne24.false c.if-input-i-ne24-2.false
