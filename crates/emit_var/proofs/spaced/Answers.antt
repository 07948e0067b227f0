-- Goals of `emit_var::spaced` that the search leaves.
use Rattle.emit_var.proofs.Spelling.{spaced-text}
use Rattle.emit_var.proofs.spaced.Goals as goal

pub returns : goal.returns
returns c = spaced-text _ c.spell.ensures c.join.ensures
