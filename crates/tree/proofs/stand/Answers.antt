-- Goals of `tree::stand` that the search leaves.
use mathlib.Core.Path.{sym, ◌∙◌}
use native.Mathlib.Omega.{arith}
use Rattle.tree.proofs.Chains.{no-parent, no_row, too-deep, scope-stands, leaf-stands}
use Rattle.tree.proofs.stand.Goals as goal

pub returns-then-kind-eq0 : goal.returns-then-kind-eq0
returns-then-kind-eq0 c = no_row _ _ _ _ (sym c.kind_at-kind.ensures ∙ c.if-kind-eq0.true)

pub returns-then-spot-p : goal.returns-then-spot-p
returns-then-spot-p c =
    no-parent _ _ _ _ _ _ c.requires.2 c.parent_at-p.ensures c.unwind-spot.ensures
    c.if-spot-p.true

pub returns-then-kind-ne-SCOPE : goal.returns-then-kind-ne-SCOPE
returns-then-kind-ne-SCOPE c =
    leaf-stands _ _ _ _ _ _ c.requires.2 c.parent_at-p.ensures c.unwind-spot.ensures
    c.if-spot-p.false
    (λ e. c.if-kind-eq0.false (c.kind_at-kind.ensures ∙ e))
    (λ e. c.if-kind-ne-SCOPE.true (c.kind_at-kind.ensures ∙ e)) c.requires.1

pub returns-then-spot-ge-LEVELS : goal.returns-then-spot-ge-LEVELS
returns-then-spot-ge-LEVELS c =
    too-deep _ _ _ _ _ _ c.requires.2 c.parent_at-p.ensures c.unwind-spot.ensures
    c.if-spot-p.false
    (sym c.kind_at-kind.ensures ∙ c.if-kind-ne-SCOPE.false) (omega (arith, c.if-spot-ge-LEVELS.true))

pub returns : goal.returns
returns c =
    scope-stands _ _ _ _ _ _ c.requires.2 c.parent_at-p.ensures c.unwind-spot.ensures
    c.if-spot-p.false
    (sym c.kind_at-kind.ensures ∙ c.if-kind-ne-SCOPE.false)
    (omega (arith, c.if-spot-ge-LEVELS.false)) (omega (arith, c.requires.0))
