-- Goals of `white_space::blank_before` that the search leaves.
use mathlib.Core.Path.{◌∙◌}
use Rattle.white_space.proofs.Blank.{before-none}
use Rattle.white_space.proofs.blank_before.Goals as goal

pub returns : goal.returns
returns c =
    before-none _ _ (λ l e. c.if-blank_at-eq1.false (c.blank_at.ensures ∙ e))
    (λ l e. c.if-blank_at-eq2.false (c.blank_at-2.ensures ∙ e))
    (λ l e. c.if-blank_at-eq3.false (c.blank_at-3.ensures ∙ e))
