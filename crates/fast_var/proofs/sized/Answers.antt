-- Goals of `fast_var::sized` that the search leaves.
use Rattle.fast_var.proofs.Definitions.{goes-size}
use Rattle.fast_var.proofs.sized.Goals as goal

pub returns : goal.returns
returns c =
    let h = rw c.in_ok-n.was at c.fast_number.ensures in
    goes-size c.spaces_end.ensures h.0 c.if-input-end-ne32.false _ _ h.1 c.if-n-gt4294967295.false c.coded.result c.coded.ensures
