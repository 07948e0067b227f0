-- Goals of `fast_var::range` that the search leaves.
use Rattle.fast_var.proofs.Indexes.{range-here}
use Rattle.fast_var.proofs.range.Goals as goal

pub returns : goal.returns
returns c =
    range-here _ _ _ (c.closed.ensures c.if-not-closed.false) _ _ _ c.requires.2
    (rw c.in_ok-b.was at c.digits.ensures)
