-- Goals of `listing::fast_run` that the search leaves.
use native.Mathlib.Omega.{arith}
use Rattle.listing.proofs.Passing.{running-start, running-ends, running-time, running-other}
use Rattle.listing.proofs.fast_run.Goals as goal
use Rattle.listing.proofs.fast_run.Goals.{in-Time, in-Scalar+else-i-code}

pub loop-init : goal.loop-init
loop-init c = running-start _ _ _ _ _ c.requires (omega (arith, c.short_commands-most.ensures.0))

pub returns-then-i-code : goal.returns-then-i-code
returns-then-i-code c = running-ends _ _ _ _ _ _ _ c.loop.invariant _ c.so_far.ensures

pub returns-in_default : goal.returns-in_default
returns-in_default c = running-ends _ _ _ _ _ _ _ c.loop.invariant _ c.so_far-in_default.ensures

pub loop-preserved : goal.loop-preserved
loop-preserved c =
    let r = c.loop.invariant in
    let less = c.loop-test.true in
    (elim c.match-parse_short.branch [
      | in-Time w ↦
          let h = rw w.in-Time.is at c.parse_short.ensures in
          rw (w.cur-is, w.last-is, w.word_read-cur.ensures) (running-time _ _ _ _ _ _ _ _ _ r (omega (arith, less)) h.1 _ h.0)
      | in-Scalar+else-i-code w ↦
          let h = rw w.in-Scalar.is at c.parse_short.ensures in
          rw (w.cur-is, w.last-is, w.word_read-cur-in-Scalar.ensures) (running-other _ _ _ _ _ _ _ _ _ r (omega (arith, less)) h.1 _ h.0 w.if-i-code.false)
    ])

pub returns : goal.returns
returns c = running-ends _ _ _ _ _ _ _ c.loop.invariant _ c.so_far-2.ensures
