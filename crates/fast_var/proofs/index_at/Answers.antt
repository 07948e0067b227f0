-- Goals of `fast_var::index_at` that the search leaves.
use Rattle.fast_var.proofs.Indexes.{bit-here}
use Rattle.fast_var.proofs.index_at.Goals as goal

pub returns : goal.returns
returns c =
    bit-here _ _ _ (c.closed.ensures c.if-not-closed.false) _ c.if-input-at-ne91.false
    (rw c.in_ok-a.was at c.digits.ensures)
