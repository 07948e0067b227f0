-- Goals of `write_calls::wrote` that the search leaves.
use mathlib.Core.Path.{refl}
use Rattle.write_calls.proofs.wrote.Goals as goal

pub returns-in-Ok : goal.returns-in-Ok
returns-in-Ok c = rw c.in-Ok.is (record { status = refl; writer = c.put_writer.ensures; count = refl })

pub returns-in-Err : goal.returns-in-Err
returns-in-Err c = rw c.in-Err.is (record { status = c.number.ensures; writer = refl; count = refl })
