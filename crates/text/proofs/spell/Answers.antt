-- Goals of `text::spell` that the search leaves.
use Rattle.text.proofs.Rows.{row_copied}
use Rattle.text.proofs.spell.Goals as goal

pub returns : goal.returns
returns c = row_copied _ _ _ c.min-len.ensures c.copy_from_slice.ensures.after
