-- What the loop of `job::listed::take_turns` keeps.
use Rattle.list_job.specs.Turns.{Tables, left}
use Rattle.job.proofs.listed.take_turns.Given as goal

abbrev pub invariant-loop-stdout : goal.invariant-loop-stdout
invariant-loop-stdout l = Tables l.rows l.changes l.state

abbrev pub decreases-loop-stdout : goal.decreases-loop-stdout
decreases-loop-stdout l = left l.state
