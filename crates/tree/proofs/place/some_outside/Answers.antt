-- Goals of `tree::place::some_outside` that the search leaves.
use mathlib.Core.Path.{sym, ap, ◌∙◌}
use native.Mathlib.Omega.{arith}
use Rattle.tree.specs.Place.{some_outside}
use Rattle.tree.proofs.Rows.{rest_all}
use Rattle.tree.proofs.Places.{outside-past, outside-here, outside-more, outside-end}
use Rattle.tree.proofs.place.some_outside.Goals as goal

pub loop-i-init : goal.loop-i-init
loop-i-init c = ap (some_outside _) (sym (rest_all _ _))

pub returns-then-rows-i : goal.returns-then-rows-i
returns-then-rows-i c = let l = c.loop-i in sym (l.invariant ∙ outside-past _ _ _ _ c.if-rows-i.true)

pub returns-then-row_outside : goal.returns-then-row_outside
returns-then-row_outside c =
    let l = c.loop-i in
    let e = sym c.row_outside.ensures ∙ c.if-row_outside.true in
    sym (l.invariant ∙ outside-here _ _ _ _ c.loop-i-test.true e)

pub loop-i-preserved : goal.loop-i-preserved
loop-i-preserved c =
    let l = c.loop-i in
    let e = sym c.row_outside.ensures ∙ c.if-row_outside.false in
    l.invariant ∙ outside-more _ _ _ _ c.loop-i-test.true e

pub returns : goal.returns
returns c = let l = c.loop-i in sym (l.invariant ∙ outside-end _ _ _ _ (omega arith) c.loop-i-test.false)
