-- Goals of `list_calls::status` that the search leaves.
use Rattle.list_calls.proofs.status.Goals as goal

pub returns-in-Err : goal.returns-in-Err
returns-in-Err c = rw c.in-Err.is c.number.ensures
