-- Goals of `listing::list_on` that the search leaves.
use mathlib.Core.Path.{◌≡◌, refl, sym, ◌∙◌}
use native.Mathlib.Omega.{arith}
use Rattle.parser.proofs.Ahead.{good-valid}
use Rattle.parser.proofs.All.{less-left}
use Rattle.list_step.specs.declared.Step.{Step}
use Rattle.list_step.proofs.Roles.{Saw, saw, read-valid, bad-next}
use Rattle.listing.proofs.Listed.{Listed, listed_start, passes-read, listed-passes, listed-change, listed-full, listed-refused, listed-done}
use Rattle.listing.proofs.list_on.Goals as goal
use Rattle.listing.proofs.list_on.Goals.{After-cur-1, After-step_fast}

-- the listing after the run
ran : (c : After-cur-1)
    → let a = c.args in
    let l = c.loop-d in
    let r = c.fast_run-ran.result in
    Listed a.input.now a.code a.c a.since a.rows.now l.rows r.cursor l.n r.since
ran c = listed-passes _ _ _ _ _ _ _ _ _ c.loop-d.invariant.1 _ _ c.fast_run-ran.ensures

-- what was read, by what the listing saw
read : (c : After-step_fast) (r : Step) → c.step_fast.result ≡ r
    → let a = c.args in
    Saw a.input.now a.code c.fast_run-ran.result.cursor r
read c r e = saw _ _ _ _ r c.step_fast.ensures e

pub returns-then-not-placed : goal.returns-then-not-placed
returns-then-not-placed c = record { answer = rw c.answer.ensures (listed-refused _ _ _ _ _ _ _ _ _ (listed_start _ _ _ _ _) _ _ _ (bad-next _ _ (sym c.placed.ensures ∙ c.if-not-placed.true))).0; table = (listed-refused _ _ _ _ _ _ _ _ _ (listed_start _ _ _ _ _) _ _ _ (bad-next _ _ (sym c.placed.ensures ∙ c.if-not-placed.true))).1 }

pub loop-d-init : goal.loop-d-init
loop-d-init c = (good-valid _ _ (sym c.placed.ensures ∙ c.if-not-placed.false), listed_start _ _ _ _ _)

pub loop-d-smaller-in-Time : goal.loop-d-smaller-in-Time
loop-d-smaller-in-Time c =
    omega (
      arith,
      less-left _ _ _ _ (read (goal.at.loop-d-smaller-in-Time c).After-step_fast _ c.in-Time.is).next,
      c.fast_run-ran.ensures.past,
    )

pub loop-d-preserved-in-Time : goal.loop-d-preserved-in-Time
loop-d-preserved-in-Time c =
    let p = passes-read _ _ _ _ _ _ (read (goal.at.loop-d-preserved-in-Time c).After-step_fast _ c.in-Time.is) refl in
    (p.valid, listed-passes _ _ _ _ _ _ _ _ _ (ran (goal.at.loop-d-preserved-in-Time c).After-cur-1) _ _ p)

pub returns-then-cap-n : goal.returns-then-cap-n
returns-then-cap-n c = record { answer = rw c.full.ensures (listed-full _ _ _ _ _ _ _ _ _ (ran (goal.at.returns-then-cap-n c).After-cur-1) _ _ _ (read (goal.at.returns-then-cap-n c).After-step_fast _ c.in-Change.is) c.if-cap-n.true).0; table = (listed-full _ _ _ _ _ _ _ _ _ (ran (goal.at.returns-then-cap-n c).After-cur-1) _ _ _ (read (goal.at.returns-then-cap-n c).After-step_fast _ c.in-Change.is) c.if-cap-n.true).1 }

pub loop-d-smaller-in-Change : goal.loop-d-smaller-in-Change
loop-d-smaller-in-Change c =
    omega (
      arith,
      less-left _ _ _ _ (read (goal.at.loop-d-smaller-in-Change c).After-step_fast _ c.in-Change.is).next,
      c.fast_run-ran.ensures.past,
    )

pub loop-d-preserved-in-Change : goal.loop-d-preserved-in-Change
loop-d-preserved-in-Change c =
    let h = read (goal.at.loop-d-preserved-in-Change c).After-step_fast _ c.in-Change.is in
    let l = ran (goal.at.loop-d-preserved-in-Change c).After-cur-1 in (
      read-valid _ _ _ _ _ h,
      rw c.put_change.ensures (listed-change _ _ _ _ _ _ _ _ _ l _ _ _ h c.if-cap-n.false),
    )

pub loop-d-smaller : goal.loop-d-smaller
loop-d-smaller c =
    omega (
      arith,
      less-left _ _ _ _ (read (goal.at.loop-d-smaller c).After-step_fast _ c.in-Other.is).next,
      c.fast_run-ran.ensures.past,
    )

pub loop-d-preserved : goal.loop-d-preserved
loop-d-preserved c =
    let p = passes-read _ _ _ _ _ _ (read (goal.at.loop-d-preserved c).After-step_fast _ c.in-Other.is) refl in
    (p.valid, listed-passes _ _ _ _ _ _ _ _ _ (ran (goal.at.loop-d-preserved c).After-cur-1) _ _ p)

pub returns-in-Refused : goal.returns-in-Refused
returns-in-Refused c = record { answer = rw c.answer-in-Refused.ensures (listed-refused _ _ _ _ _ _ _ _ _ (ran (goal.at.returns-in-Refused c).After-cur-1) _ _ _ (read (goal.at.returns-in-Refused c).After-step_fast _ c.in-Refused.is)).0; table = (listed-refused _ _ _ _ _ _ _ _ _ (ran (goal.at.returns-in-Refused c).After-cur-1) _ _ _ (read (goal.at.returns-in-Refused c).After-step_fast _ c.in-Refused.is)).1 }

pub returns-in-Done : goal.returns-in-Done
returns-in-Done c = record { answer = rw c.answer-in-Done.ensures (listed-done _ _ _ _ _ _ _ _ _ (ran (goal.at.returns-in-Done c).After-cur-1) _ (read (goal.at.returns-in-Done c).After-step_fast _ c.in-Done.is)).0; table = (listed-done _ _ _ _ _ _ _ _ _ (ran (goal.at.returns-in-Done c).After-cur-1) _ (read (goal.at.returns-in-Done c).After-step_fast _ c.in-Done.is)).1 }
