-- Goals of `number::decimal_i32` that the search leaves.
use Prim.Native.Nat.{ℕ}
use mathlib.Core.Path.{◌∙◌, ap}
use Rattle.text.specs.Texts.{spelled}
use Rattle.number.specs.Decimal.{decimal_of}
use Rattle.number.proofs.Negating.{write-from-zero, write_signed}
use Rattle.number.proofs.decimal_i32.Goals as goal

pub returns-then-n-ge0 : goal.returns-then-n-ge0
returns-then-n-ge0 c =
    c.decimal-size.ensures ∙ ap (λ (m : ℕ). spelled (decimal_of m)) c.unsigned_abs.ensures.value
    ∙ ap spelled (write-from-zero _ c.ranges.n c.if-n-ge0.true)

pub returns : goal.returns
returns c =
    write_signed _ c.ranges.n c.if-n-ge0.false _ _ _ _ c.unsigned_abs.ensures.value c.spell.ensures c.decimal-size.ensures c.join.ensures
