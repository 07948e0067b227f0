-- Goals of `fast_var::named` that the search leaves.
use Rattle.fast_var.proofs.Definitions.{goes-name, ends-name}
use Rattle.fast_var.proofs.named.Goals as goal

pub returns-then-ends : goal.returns-then-ends
returns-then-ends c =
    ends-name _ _ _ c.spaces_end-start.ensures
    (c.word_end-end.ensures c.if-end-start.false)
    c.requires.1 c.spaces_end-last.ensures
    (c.ends.ensures c.if-ends.true) _ c.made.ensures

pub returns : goal.returns
returns c =
    goes-name _ _ _ c.spaces_end-start.ensures
    (c.word_end-end.ensures c.if-end-start.false)
    c.requires.1 c.spaces_end-last.ensures
    c.indexed.result c.indexed.ensures
