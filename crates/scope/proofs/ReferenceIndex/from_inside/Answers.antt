-- Goals of `scope::ReferenceIndex::from_inside` that the search leaves.
use mathlib.Core.Path.{refl, sym, ◌∙◌}
use Rattle.scope.proofs.Splitting.{inside-bit, inside-range, padded-held}
use Rattle.scope.proofs.ReferenceIndex.from_inside.Goals as goal

-- no colon
pub returns-in_err-n : goal.returns-in_err-n
returns-in_err-n c =
    c.from_residual.ensures ∙ inside-bit _ _ c.find_colon-colon.ensures c.if-colon-s.true _ (sym c.in_err-n.was ∙ c.number_in.ensures)

pub returns-then-colon-s : goal.returns-then-colon-s
returns-then-colon-s c =
    inside-bit _ _ c.find_colon-colon.ensures c.if-colon-s.true _ (padded-held _ _ _ c.number_in.ensures c.in_ok-n.was)

pub returns-in_err-msb : goal.returns-in_err-msb
returns-in_err-msb c =
    c.from_residual-in_err-msb.ensures ∙ inside-range _ _ c.find_colon-colon.ensures c.if-colon-s.false _ _ (sym c.in_err-msb.was ∙ c.number_in-2.ensures) refl

pub returns-in_err-lsb : goal.returns-in_err-lsb
returns-in_err-lsb c =
    c.from_residual-in_err-lsb.ensures
    ∙ inside-range _ _ c.find_colon-colon.ensures c.if-colon-s.false _ _
    (padded-held _ _ _ c.number_in-2.ensures c.in_ok-msb.was) (sym c.in_err-lsb.was ∙ c.number_in-3.ensures)

pub returns : goal.returns
returns c =
    inside-range _ _ c.find_colon-colon.ensures c.if-colon-s.false _ _
    (padded-held _ _ _ c.number_in-2.ensures c.in_ok-msb.was) (padded-held _ _ _ c.number_in-3.ensures c.in_ok-lsb.was)
