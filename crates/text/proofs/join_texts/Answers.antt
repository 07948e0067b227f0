-- Goals of `text::join_texts` that the search leaves.
use Rattle.text.proofs.Rows.{row_joined}
use Rattle.text.proofs.join_texts.Goals as goal

pub returns : goal.returns
returns c = row_joined _ _ _ _ _ c.spell-len.ensures c.min-more.ensures c.copy_from_slice.ensures.after
