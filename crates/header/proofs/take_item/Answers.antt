-- Goals of `header::take_item` that the search leaves.
use mathlib.Core.Path.{sym, ◌∙◌}
use Rattle.header.proofs.Levels.{took, rest-refused, rest-done}
use Rattle.header.proofs.take_item.Goals as goal

pub returns-in-Command : goal.returns-in-Command
returns-in-Command c = took _ _ _ _ _ _ _ _ _ (sym c.next_command.ensures ∙ c.in-Command.is) _ _ c.store_item.ensures

pub returns-in-Refused : goal.returns-in-Refused
returns-in-Refused c = λ st h w. rest-refused _ _ _ _ _ _ st h _ _ (sym c.next_command.ensures ∙ c.in-Refused.is)

pub returns-in-Done : goal.returns-in-Done
returns-in-Done c = λ st h w. rest-done _ _ _ _ _ _ st h (sym c.next_command.ensures ∙ c.in-Done.is)
