-- Goals of `read_calls::change` that the search leaves.
use mathlib.Core.Path.{ap}
use Rattle.read_calls.specs.Reading.{is_change}
use Rattle.read_calls.proofs.Taken.{change-inside}
use Rattle.read_calls.proofs.change.Goals as goal

pub copy_row-requires : goal.copy_row-requires
copy_row-requires c = rw c.if-change-ne-WORDS.false (change-inside _ _ c.change_at.ensures (ap is_change c.in-Is.is))
