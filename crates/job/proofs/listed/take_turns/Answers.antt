-- Goals of `job::listed::take_turns` that the search leaves.
use Rattle.list_job.proofs.Turning.{turn_on}
use Rattle.job.proofs.listed.take_turns.Goals as goal

pub loop-stdout-smaller : goal.loop-stdout-smaller
loop-stdout-smaller c =
    (turn_on c.args.input.now _ _ _ _ c.loop-stdout.invariant c.is_finished.ensures (c.loop-stdout-test.true) c.take_turn-t.ensures).1

pub loop-stdout-preserved : goal.loop-stdout-preserved
loop-stdout-preserved c =
    (turn_on c.args.input.now _ _ _ _ c.loop-stdout.invariant c.is_finished.ensures (c.loop-stdout-test.true) c.take_turn-t.ensures).0
