-- Goals of `write_calls::id_text` that the search leaves.
use mathlib.Core.Path.{refl}
use borrow.Author.Tests.{eq-eqb, ne_eqb}
use Rattle.write_calls.specs.Writing.{id_status, id_bytes, id_count}
use Rattle.write_calls.proofs.id_text.Goals as goal

pub returns-then-code-eq-NONE : goal.returns-then-code-eq-NONE
unfolding id_status id_bytes id_count
returns-then-code-eq-NONE c = rw (eq-eqb _ _ c.if-code-eq-NONE.true) (record { status = refl; out = refl; count = refl })

pub returns-in-Some : goal.returns-in-Some
unfolding id_status id_bytes id_count
returns-in-Some c = rw (ne_eqb _ _ c.if-code-eq-NONE.false, ← c.put.ensures.0, c.in-Some.is) (record { status = refl; out = c.put.ensures.1; count = refl })

pub returns-in-None : goal.returns-in-None
unfolding id_status id_bytes id_count
returns-in-None c = rw (ne_eqb _ _ c.if-code-eq-NONE.false, ← c.put.ensures.0, c.in-None.is) (record { status = refl; out = c.put.ensures.1; count = refl })
