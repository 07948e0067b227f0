-- Goals of `lent_writer::step` that the search leaves.
use Rattle.std.specs.Prelude.{Result}
use Rattle.command.specs.declared.Refusal.{Refusal}
use Prim.Native.Nat.{ℕ}
use mathlib.Core.Path.{◌≡◌, ap, sym, ◌∙◌}
use mathlib.Core.List.{List}
use Rattle.write.specs.Call.{Outcome, Does}
use Rattle.write.specs.declared.Writer.{Writer}
use Rattle.lent_writer.specs.Lent.{lent_step}
use Rattle.lent_writer.proofs.step.Goals as goal

-- where the answer r of a call is a
arm : (w : Writer) {a r : Result (ℕ × Writer) Refusal} {o : List ℕ} {x : Outcome} → r ≡ a → Does r o x → (lent_step w a ≡ lent_step w x.answer) × (o ≡ x.left)
arm w e d = (ap (lent_step w) (sym e ∙ d.answers), d.leaves)

pub returns-in-Ok : goal.returns-in-Ok
returns-in-Ok c = arm _ c.in-Ok.is c.command.ensures

pub returns-in-Err : goal.returns-in-Err
returns-in-Err c = arm _ c.in-Err.is c.command.ensures
