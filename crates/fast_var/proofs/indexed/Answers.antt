-- Goals of `fast_var::indexed` that the search leaves.
use Rattle.fast_var.proofs.Definitions.{ends-index}
use Rattle.fast_var.proofs.indexed.Goals as goal

pub returns : goal.returns
returns c =
    ends-index _ _ _ _ _ c.requires.0
    (rw c.in_ok-x.was at c.index_at.ensures) c.spaces_end-last.ensures
    (c.ends.ensures c.if-not-ends.false) _ c.made.ensures
