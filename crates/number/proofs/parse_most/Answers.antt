-- Goals of `number::parse_most` that the search leaves.
use mathlib.Core.Path.{refl, ◌∙◌}
use Rattle.number.specs.Decimal.{parse_below}
use Rattle.number.proofs.Laws.{sign-stripped}
use Rattle.number.proofs.parse_most.Goals as goal

pub returns : goal.returns
unfolding parse_below
returns c = c.digits_most.ensures ∙ rw (c.unwrap_or.ensures, sign-stripped c.args.s.now c.args.s _ c.strip_prefix.ensures.cases refl)
