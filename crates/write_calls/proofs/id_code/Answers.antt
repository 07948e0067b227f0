-- Goals of `write_calls::id_code` that the search leaves.
use mathlib.Core.Path.{refl, ap, ◌∙◌}
use Rattle.command.specs.Refusals.{number_of}
use Rattle.write_calls.proofs.id_code.Goals as goal

pub returns-in-Ok : goal.returns-in-Ok
returns-in-Ok c = rw (← c.from_str.ensures, c.in-Ok.is) (record { status = refl; code = refl })

pub returns-in-Err : goal.returns-in-Err
returns-in-Err c = rw (← c.from_str.ensures, c.in-Err.is) (record { status = c.number.ensures ∙ ap number_of c.from.ensures; code = refl })
