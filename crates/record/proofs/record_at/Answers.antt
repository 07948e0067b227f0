-- Goals of `record::record_at` that the search leaves.
use mathlib.Core.Path.{ap, ◌∙◌}
use borrow.Author.Tests.{lt-ltb, le-ltb}
use Rattle.record.specs.Record.{command_of, record_at}
use Rattle.record.proofs.record_at.Goals as goal

pub returns-then-records-i : goal.returns-then-records-i
unfolding record_at
returns-then-records-i c = rw (le-ltb _ _ c.if-records-i.true)

pub returns : goal.returns
unfolding record_at
returns c = rw (lt-ltb _ _ c.if-records-i.false) (c.command.ensures ∙ ap command_of c.words_at.ensures)
