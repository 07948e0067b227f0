-- Goals of `find::first_named` that the search leaves.
use mathlib.Core.Path.{refl, sym, ◌∙◌}
use native.Mathlib.Omega.{arith}
use Rattle.find.proofs.Finding.{from_start, from-hit, from_more, from_past}
use Rattle.find.proofs.first_named.Goals as goal

pub loop-i-init : goal.loop-i-init
loop-i-init c = from_start _ _ _ _ _ _ _ refl

pub returns-then-is_named : goal.returns-then-is_named
returns-then-is_named c =
    sym (c.loop-i.invariant ∙ from-hit _ _ _ _ _ _ _ (omega (arith, c.min-held.ensures)) (sym (rw c.row_at.ensures at c.is_named.ensures) ∙ c.if-is_named.true))

pub loop-i-preserved : goal.loop-i-preserved
loop-i-preserved c =
    c.loop-i.invariant ∙ from_more _ _ _ _ _ _ _ (omega (arith, c.min-held.ensures)) (sym (rw c.row_at.ensures at c.is_named.ensures) ∙ c.if-is_named.false)

pub returns : goal.returns
returns c = sym (c.loop-i.invariant ∙ from_past _ _ _ _ _ _ _ (omega (arith, c.min-held.ensures)))
