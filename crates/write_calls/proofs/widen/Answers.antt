-- Goals of `write_calls::widen` that the search leaves.
use mathlib.Core.Path.{refl}
use Rattle.write_calls.proofs.widen.Goals as goal

pub returns-in-Ok : goal.returns-in-Ok
returns-in-Ok c = rw (← c.widen.ensures.0, c.in-Ok.is) (record { status = refl; out = c.widen.ensures.1; count = refl })

pub returns-in-Err : goal.returns-in-Err
returns-in-Err c = rw (← c.widen.ensures.0, c.in-Err.is) (record { status = c.number.ensures; out = c.widen.ensures.1; count = refl })
