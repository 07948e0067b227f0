-- Goals of `rewrite::rewrite` that the search leaves.
use mathlib.Core.Path.{refl, sym, ◌∙◌}
use native.Mathlib.Omega.{arith}
use Rattle.parser.proofs.Ahead.{good-valid}
use Rattle.rewrite.proofs.Turn.{writes-none, goes_on, goes-hit, stops, stops-before}
use Rattle.rewrite.proofs.rewrite.Goals as goal
use Rattle.rewrite.proofs.rewrite.Goals.{In-Hit}

pub returns-then-not-placed : goal.returns-then-not-placed
returns-then-not-placed c = record { answer = rw c.answer.ensures (stops-before _ _ _ _ (sym c.placed.ensures ∙ c.if-not-placed.true)).0; bytes = (stops-before c.args.input.now c.args.out.now c.args.c c.args.w (sym c.placed.ensures ∙ c.if-not-placed.true)).1 }

pub loop-end-init : goal.loop-end-init
loop-end-init c = writes-none _ _ _ _ (good-valid _ _ (sym c.placed.ensures ∙ c.if-not-placed.false))

pub overflow_add-used : goal.overflow_add-used
overflow_add-used c = omega (arith, (goes-hit _ _ _ _ _ _ _ _ c.loop-end.invariant _ _ _ refl c.step_fast.ensures c.in-Hit.is).0.room)

pub loop-end-smaller-in-Hit : goal.loop-end-smaller-in-Hit
loop-end-smaller-in-Hit c = rw c.word_read-cur.ensures (goes-hit _ _ _ _ _ _ _ _ c.loop-end.invariant _ _ _ refl c.step_fast.ensures c.in-Hit.is).1

pub loop-end-preserved-in-Hit : goal.loop-end-preserved-in-Hit
loop-end-preserved-in-Hit c = rw c.word_read-cur.ensures (goes-hit _ _ _ _ _ _ _ _ c.loop-end.invariant _ _ _ refl c.step_fast.ensures c.in-Hit.is).0

pub overflow_add-used-in-Wrote : goal.overflow_add-used-in-Wrote
overflow_add-used-in-Wrote c = omega (arith, (goes_on _ _ _ _ _ _ _ _ c.loop-end.invariant _ _ _ refl c.step_fast.ensures c.in-Wrote.is).0.room)

pub loop-end-smaller : goal.loop-end-smaller
loop-end-smaller c = (goes_on _ _ _ _ _ _ _ _ c.loop-end.invariant _ _ _ refl c.step_fast.ensures c.in-Wrote.is).1

pub loop-end-preserved : goal.loop-end-preserved
loop-end-preserved c = (goes_on _ _ _ _ _ _ _ _ c.loop-end.invariant _ _ _ refl c.step_fast.ensures c.in-Wrote.is).0

pub returns-in-Ends : goal.returns-in-Ends
returns-in-Ends c = record { answer = rw c.answer-in-Ends.ensures (stops _ _ _ _ _ _ _ _ c.loop-end.invariant _ _ _ refl c.step_fast.ensures c.in-Ends.is).0; bytes = (stops _ _ _ _ _ _ _ _ c.loop-end.invariant _ _ _ refl c.step_fast.ensures c.in-Ends.is).1 }
