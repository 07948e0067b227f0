-- Goals of `write_calls::rewrite_status` that the search leaves.
use mathlib.Core.Path.{refl}
use Rattle.write_calls.proofs.rewrite_status.Goals as goal

pub returns-in-Err : goal.returns-in-Err
returns-in-Err c = rw c.in-Err.is (record { status = c.number.ensures; line = refl })
