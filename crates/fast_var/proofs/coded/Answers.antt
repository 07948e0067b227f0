-- Goals of `fast_var::coded` that the search leaves.
use Rattle.fast_var.proofs.Definitions.{goes-code}
use Rattle.fast_var.proofs.coded.Goals as goal

pub returns : goal.returns
returns c =
    let h = rw c.in_ok-i.was at c.fast_id.ensures in
    goes-code c.spaces_end.ensures h.0 c.if-input-end-ne32.false _ _ _ h.1 c.named.result c.named.ensures
