-- Goals of `list_calls::list` that the search leaves.
use Rattle.list_calls.proofs.list.Goals as goal

pub returns : goal.returns
returns c = let e = c.list_on.ensures in record { status = e.status; cursor = e.cursor; rows = e.rows; count = e.count }
