-- Goals of `fast_var::word_end_plain` that the search leaves.
use Rattle.std.proofs.Common.{[], arith}
use Rattle.fast_var.proofs.Places.{stands-none, stands-more, stands-two, worded}
use Rattle.fast_var.proofs.word_end_plain.Goals as goal

pub loop-i-init : goal.loop-i-init
loop-i-init c = ([], stands-none _ _)

pub returns-then-a-eq32 : goal.returns-then-a-eq32
returns-then-a-eq32 c = λ h. (worded _ _ _ _ c.loop-i.invariant.1 (omega arith) h c.if-a-eq32.true).0

pub returns-then-b-eq32 : goal.returns-then-b-eq32
returns-then-b-eq32 c =
    λ h.
    let k = c.loop-i.invariant.1 in
    let one = stands-more _ _ _ _ k (omega arith) c.if-a-lt33.false c.if-a-gt126.false in
    (worded _ _ _ _ one (omega arith) h c.if-b-eq32.true).0

pub loop-i-preserved : goal.loop-i-preserved
loop-i-preserved c =
    stands-two _ _ _ _ c.loop-i.invariant.1 (omega arith) c.if-a-lt33.false
    c.if-a-gt126.false c.if-b-lt33.false c.if-b-gt126.false
