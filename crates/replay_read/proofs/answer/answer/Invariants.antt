-- What the loop of `replay_read::answer::answer` keeps.
use Rattle.std.proofs.Common.{◌≤◌}
use Rattle.replay_read.proofs.answer.answer.Given as goal

abbrev pub invariant-loop : goal.invariant-loop
invariant-loop l = l.count ≤ 3
