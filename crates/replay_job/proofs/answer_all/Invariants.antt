-- What the loop of `replay_job::answer_all` keeps.
use Rattle.std.proofs.Common.{◌≤◌}
use Rattle.replay_job.proofs.answer_all.Given as goal

abbrev pub invariant-loop-turn : goal.invariant-loop-turn
invariant-loop-turn l = l.number ≤ l.turn
