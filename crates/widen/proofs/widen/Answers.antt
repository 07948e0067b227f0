-- Goals of `widen::widen` that the search leaves.
use mathlib.Core.Path.{refl, sym, ◌∙◌}
use native.Mathlib.Omega.{arith}
use Rattle.widen.proofs.Widening.{widen-outside, widen-invalid, widen-no-room, widen-laid}
use Rattle.widen.proofs.widen.Goals as goal

pub returns-then-outside : goal.returns-then-outside
returns-then-outside c = widen-outside _ _ _ _ (sym c.outside.ensures ∙ c.if-outside.true)

pub returns-then-not-is_widenable : goal.returns-then-not-is_widenable
returns-then-not-is_widenable c = widen-invalid _ _ _ _ _ (sym c.outside.ensures ∙ c.if-outside.false) c.part-v.ensures (sym c.is_widenable.ensures ∙ c.if-not-is_widenable.true)

pub returns-then-out-fill : goal.returns-then-out-fill
returns-then-out-fill c = widen-no-room _ _ _ _ _ (sym c.outside.ensures ∙ c.if-outside.false) c.part-v.ensures (sym c.is_widenable.ensures ∙ c.if-not-is_widenable.false) (omega (arith, c.missing-fill.ensures))

pub returns-then-out-fill-2 : goal.returns-then-out-fill-2
returns-then-out-fill-2 c = widen-no-room _ _ _ _ _ (sym c.outside.ensures ∙ c.if-outside.false) c.part-v.ensures (sym c.is_widenable.ensures ∙ c.if-not-is_widenable.false) (omega (arith, c.missing-fill.ensures))

pub returns : goal.returns
returns c =
    widen-laid _ _ _ _ _ (sym c.outside.ensures ∙ c.if-outside.false) c.part-v.ensures _ _ _ _ c.missing-fill.ensures
    (sym c.is_widenable.ensures ∙ c.if-not-is_widenable.false) c.if-out-fill.false c.if-out-fill-2.false c.zeros.ensures.1
    c.write_lower.ensures.1 refl
