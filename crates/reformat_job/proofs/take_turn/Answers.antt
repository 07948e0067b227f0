-- Goals of `reformat_job::take_turn` that the search leaves.
use Rattle.reformat_job.proofs.take_turn.Goals as goal

pub returns-in-Last : goal.returns-in-Last
returns-in-Last c = rw c.in-Last.is (c.turn_last.ensures c.args.rows.now)
