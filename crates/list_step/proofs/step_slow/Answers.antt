-- Goals of `list_step::step_slow` that the search leaves.
use mathlib.Core.Path.{◌∙◌}
use Rattle.list_step.proofs.step_slow.Goals as goal

pub returns-in-Command : goal.returns-in-Command
returns-in-Command c = c.step_of.ensures ∙ rw (← c.next_command.ensures, c.in-Command.is, c.seen_command.ensures)

pub returns-in-Refused : goal.returns-in-Refused
returns-in-Refused c = rw (← c.next_command.ensures, c.in-Refused.is)

pub returns-in-Done : goal.returns-in-Done
returns-in-Done c = rw (← c.next_command.ensures, c.in-Done.is)
