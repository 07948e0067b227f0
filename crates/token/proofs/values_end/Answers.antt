-- Goals of `token::values_end` that the search leaves.
use mathlib.Core.Path.{refl, sym, ◌∙◌}
use native.Mathlib.Omega.{arith}
use borrow.Author.Rules.{rules}
use Rattle.token.proofs.Words.{values-stop, values-none, ValuesTo, values-more, values-on}
use Rattle.token.proofs.values_end.Goals as goal
use Rattle.token.proofs.values_end.Goals.{After-pairs_end-i}

pub loop-i-init : goal.loop-i-init
loop-i-init c = (search rules, omega arith, refl)

pub pairs_end-i-requires : goal.pairs_end-i-requires
pairs_end-i-requires c = c.loop-i.invariant.0

-- the pairs passed
paired : (c : After-pairs_end-i)
    → ValuesTo c.args.input.now c.args.at c.pairs_end-i.result
paired c = values-on _ _ _ _ c.loop-i.invariant c.pairs_end-i.ensures

pub returns-then-input-i : goal.returns-then-input-i
returns-then-input-i c =
    omega (arith, (paired (goal.at.returns-then-input-i c).After-pairs_end-i).2, values-none c.args.input.now c.pairs_end-i.result c.if-input-i.true)

pub is_value-requires : goal.is_value-requires
is_value-requires c = tt

pub loop-i-smaller : goal.loop-i-smaller
loop-i-smaller c = omega (arith, c.pairs_end-i.ensures.1)

pub loop-i-preserved : goal.loop-i-preserved
loop-i-preserved c =
    values-more _ _ _ (paired (goal.at.loop-i-preserved c).After-pairs_end-i) c.if-input-i.false
    (sym c.is_value.ensures ∙ c.if-is_value.true)

pub returns-else-is_value : goal.returns-else-is_value
returns-else-is_value c =
    let other = sym c.is_value.ensures ∙ c.if-is_value.false in
    omega (arith, (paired (goal.at.returns-else-is_value c).After-pairs_end-i).2, values-stop c.args.input.now c.pairs_end-i.result c.if-input-i.false other)
