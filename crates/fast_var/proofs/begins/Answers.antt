-- Goals of `fast_var::begins` that the search leaves.
use Rattle.std.proofs.Common.{eqb-true}
use Rattle.fast_var.proofs.Places.{var-here}
use Rattle.fast_var.proofs.begins.Goals as goal

pub returns-then-four : goal.returns-then-four
returns-then-four c =
    λ e. var-here _ _ (c.four.ensures c.if-four.true) c.if-input-at.false (eqb-true _ _ e)
