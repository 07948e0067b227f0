-- Goals of `number::parse_u32` that the search leaves.
use mathlib.Core.Path.{◌∙◌, sym}
use native.Mathlib.Omega.{arith}
use Rattle.number.proofs.Laws.{accepted}
use Rattle.number.proofs.parse_u32.Goals as goal

pub overflow_cast-result : goal.overflow_cast-result
overflow_cast-result c =
    let h = accepted _ _ _ (sym c.parse_most.ensures ∙ c.in_ok-v.was) in
    record { fits = omega arith }
