-- What the loop of `job::rewriting::take_turns` keeps.
use Rattle.reformat_job.proofs.Turning.{left}
use Rattle.job.proofs.rewriting.take_turns.Given as goal

abbrev pub decreases-loop-stdout : goal.decreases-loop-stdout
decreases-loop-stdout l = left l.input l.state
