-- Goals of `job::rewriting::take_turns` that the search leaves.
use Rattle.reformat_job.proofs.Turning.{turn_on}
use Rattle.job.proofs.rewriting.take_turns.Goals as goal

pub loop-stdout-smaller : goal.loop-stdout-smaller
loop-stdout-smaller c =
    let l = c.loop-stdout in
    turn_on c.args.input.now l.rows l.out l.state c.is_finished.ensures (c.loop-stdout-test.true) c.take_turn-t.ensures
