-- Goals of `list_step::step_of` that the search leaves.
use Rattle.list_step.proofs.step_of.Goals as goal

pub returns-in-Time : goal.returns-in-Time
returns-in-Time c = rw c.in-Time.is

pub returns-in-Change : goal.returns-in-Change
returns-in-Change c = rw c.in-Change.is

pub returns-in-Other : goal.returns-in-Other
returns-in-Other c = rw c.in-Other.is
