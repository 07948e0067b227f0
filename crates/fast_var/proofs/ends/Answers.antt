-- Goals of `fast_var::ends` that the search leaves.
use Rattle.std.proofs.Common.{sym, ◌∙◌}
use Rattle.fast_var.proofs.Places.{end-here}
use Rattle.fast_var.proofs.ends.Goals as goal

pub returns-then-four : goal.returns-then-four
returns-then-four c =
    λ e.
    end-here _ _ (c.four.ensures c.if-four.true) c.if-input-at.false
    (sym c.whitespace_byte.ensures ∙ e)
