-- Goals of `white_space::leading` that the search leaves.
use native.Mathlib.Omega.{arith}
use Rattle.white_space.proofs.Trimming.{skip-room, skip-more, skip-last, skip_all}
use Rattle.white_space.proofs.leading.Goals as goal

pub returns-then-n-eq0 : goal.returns-then-n-eq0
returns-then-n-eq0 c = skip-last _ _ _ c.loop-i.invariant c.blank_at-n.ensures c.if-n-eq0.true

pub overflow_add-i : goal.overflow_add-i
overflow_add-i c = omega (arith, skip-room _ _ _ c.loop-i.invariant c.blank_at-n.ensures)

pub loop-i-preserved : goal.loop-i-preserved
loop-i-preserved c = skip-more _ _ _ c.loop-i.invariant c.blank_at-n.ensures c.if-n-eq0.false

pub returns : goal.returns
returns c = skip_all _ _ c.loop-i.invariant c.loop-i-test.false
