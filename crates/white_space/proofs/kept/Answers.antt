-- Goals of `white_space::kept` that the search leaves.
use Rattle.white_space.proofs.Trimming.{cut-start, cut-more, cut-last, cut_all}
use Rattle.white_space.proofs.kept.Goals as goal

pub loop-j-init : goal.loop-j-init
loop-j-init c = cut-start _

pub returns-then-n-eq0 : goal.returns-then-n-eq0
returns-then-n-eq0 c = cut-last _ _ _ c.loop-j.invariant c.blank_before-n.ensures c.if-n-eq0.true

pub loop-j-preserved : goal.loop-j-preserved
loop-j-preserved c = cut-more _ _ _ c.loop-j.invariant c.blank_before-n.ensures c.if-n-eq0.false

pub returns : goal.returns
returns c = cut_all _ _ c.loop-j.invariant c.loop-j-test.false
