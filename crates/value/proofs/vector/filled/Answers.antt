-- Goals of `value::vector::filled` that the search leaves.
use lib.ListN.{length-replicate}
use Rattle.text.proofs.Rows.{no_room}
use Rattle.text.proofs.Slices.{put_filled}
use Rattle.value.proofs.vector.filled.Goals as goal

pub returns-then-out-width : goal.returns-then-out-width
returns-then-out-width c = no_room _ _ (rw length-replicate c.if-out-width.true)

pub returns : goal.returns
returns c = rw c.byte.ensures at (put_filled _ _ _ _ c.if-out-width.false (c.fill.ensures.after (λ y e. e)))
