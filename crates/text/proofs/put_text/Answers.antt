-- Goals of `text::put_text` that the search leaves.
use Rattle.text.proofs.Rows.{no_room}
use Rattle.text.proofs.Slices.{put_copied}
use Rattle.text.proofs.put_text.Goals as goal

pub returns-then-out-s : goal.returns-then-out-s
returns-then-out-s c = no_room _ _ c.if-out-s.true

pub returns : goal.returns
returns c = put_copied _ _ _ c.if-out-s.false c.copy_from_slice.ensures.after
