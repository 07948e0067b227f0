-- Goals of `records::read` that the search leaves.
use Prim.Native.Nat.{◌+◌, ◌-◌, ◌<◌}
use mathlib.Core.Path.{◌≡◌, sym, ◌∙◌}
use mathlib.Core.Bool.{true}
use native.Mathlib.Omega.{arith}
use lib.ListN.{length}
use Rattle.parser.specs.Next.{is_good, next_from}
use Rattle.parser.proofs.Ahead.{good-valid}
use Rattle.parser.proofs.All.{less-left}
use Rattle.token.specs.declared.Cursor.{Cursor}
use Rattle.records.specs.Read.{as_slow, Ran}
use Rattle.records.specs.declared.Step.{Step}
use Rattle.records.proofs.Taken.{Stepped, told, ran-start, ran-join, ran-read, ran-full, ran-last, read-bad}
use Rattle.records.proofs.read.Goals as goal
use Rattle.records.proofs.read.Goals.{After-fast_run-ran, After-step_fast, Else-not-placed, In-Hit}

-- the cursor was good; what the run before a step came to, and what the step told
good : (c : Else-not-placed) →
    let a = c.args in
    is_good a.input.now a.c ≡ true
good c = sym c.placed.ensures ∙ c.if-not-placed.false

come : (c : After-fast_run-ran) →
    let a = c.args in
    let r = c.fast_run-ran.result in
    Ran a.input.now a.c 0 a.records.now r.cursor r.count c.fast_run-ran.new.records
come c = ran-join _ _ _ _ _ _ _ c.loop-n.invariant _ _ _ c.fast_run-ran.ensures

abbrev Told : After-step_fast → Step → Type 0
Told c q = let s = c.args.input.now in let d = c.fast_run-ran.result.cursor in Stepped (next_from s d) (as_slow s d q)

step : (c : After-step_fast) (q : Step) → c.step_fast.result ≡ q → Told c q
step c q e = told _ _ _ _ q c.step_fast.ensures.0 e

-- a command was read: less is left, and one more is made
less : (c : After-step_fast) (d : Cursor) → Told c (Step.Read d) →
    let s = c.args.input.now in
    length s - d.place < length s - c.loop-n.cur.place
less c d q = omega (arith, less-left _ _ _ _ q.1, c.fast_run-ran.ensures.past)

more : (c : After-step_fast) (d : Cursor) → Told c (Step.Read d) →
    let a = c.args in
    Ran a.input.now a.c 0 a.records.now d (c.fast_run-ran.result.count + 1) c.step_fast.new.records
more c d q =
    ran-read _ _ _ _ _ _ (ran-join _ _ _ _ _ _ _ c.loop-n.invariant _ _ _ c.fast_run-ran.ensures) d q _ c.step_fast.ensures.2 c.if-cap-n.false

pub returns-then-not-placed : goal.returns-then-not-placed
returns-then-not-placed c =
    record {
      answer = rw c.answer.ensures (read-bad _ _ _ (sym c.placed.ensures ∙ c.if-not-placed.true)).0;
      table = (read-bad _ _ _ (sym c.placed.ensures ∙ c.if-not-placed.true)).1;
    }

pub loop-n-init : goal.loop-n-init
loop-n-init c = ran-start _ _ _ _ (good-valid _ _ (good (goal.at.loop-n-init c).Else-not-placed)) (omega arith)

pub returns-then-cap-n : goal.returns-then-cap-n
returns-then-cap-n c =
    let l = come (goal.at.returns-then-cap-n c).After-fast_run-ran in
    let g = good (goal.at.returns-then-cap-n c).Else-not-placed in
    record {
      answer = rw c.answer-then-cap-n.ensures (ran-full _ _ _ _ _ _ l g (omega (arith, c.if-cap-n.true))).0;
      table = (ran-full _ _ _ _ _ _ l g (omega (arith, c.if-cap-n.true))).1;
    }

pub loop-n-smaller-in-Hit : goal.loop-n-smaller-in-Hit
loop-n-smaller-in-Hit c =
    rw c.word_read-cur.ensures (less (goal.at.loop-n-smaller-in-Hit c).After-step_fast _ (step (goal.at.loop-n-smaller-in-Hit c).After-step_fast _ c.in-Hit.is))

pub loop-n-preserved-in-Hit : goal.loop-n-preserved-in-Hit
loop-n-preserved-in-Hit c =
    rw c.word_read-cur.ensures (more (goal.at.loop-n-preserved-in-Hit c).After-step_fast _ (step (goal.at.loop-n-preserved-in-Hit c).After-step_fast _ c.in-Hit.is))

pub loop-n-smaller : goal.loop-n-smaller
loop-n-smaller c = less (goal.at.loop-n-smaller c).After-step_fast _ (step (goal.at.loop-n-smaller c).After-step_fast _ c.in-Read.is)

pub loop-n-preserved : goal.loop-n-preserved
loop-n-preserved c = more (goal.at.loop-n-preserved c).After-step_fast _ (step (goal.at.loop-n-preserved c).After-step_fast _ c.in-Read.is)

pub returns-in-Ends : goal.returns-in-Ends
returns-in-Ends c =
    let l = come (goal.at.returns-in-Ends c).After-fast_run-ran in
    let g = good (goal.at.returns-in-Ends c).Else-not-placed in
    let q = step (goal.at.returns-in-Ends c).After-step_fast _ c.in-Ends.is in
    record {
      answer = rw c.answer-in-Ends.ensures (ran-last _ _ _ _ _ _ l g _ _ q c.if-cap-n.false).0;
      table = rw c.step_fast.ensures.2 (ran-last _ _ _ _ _ _ l g _ _ q c.if-cap-n.false).1;
    }
