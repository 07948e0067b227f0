-- Goals of `number::parse_i32` that the search leaves.
use mathlib.Core.Path.{◌∙◌, ap}
use native.Mathlib.Omega.{arith}
use Rattle.number.specs.Decimal.{plain, negated}
use Rattle.number.proofs.Laws.{digits-below, parse-below, under}
use Rattle.number.proofs.Signs.{signed-minus, signed-plain}
use Rattle.text.proofs.Slices.{mark-first, mark-other}
use Rattle.number.proofs.parse_i32.Goals as goal

pub below_zero-requires : goal.below_zero-requires
below_zero-requires c = under _ _ _ _ c.digits_most.ensures (digits-below _ _) (omega arith)

pub returns-in-Some : goal.returns-in-Some
returns-in-Some c =
    let d = c.in-Some.ensures.cases in
    c.below_zero.ensures ∙ ap negated c.digits_most.ensures ∙ rw d.1 (signed-minus _ (mark-first 45 c.args.s.now d.0))

pub from_zero-requires : goal.from_zero-requires
from_zero-requires c = under _ _ _ _ c.parse_most.ensures (parse-below _ _) (omega arith)

pub returns-in-None : goal.returns-in-None
returns-in-None c =
    c.from_zero.ensures ∙ ap plain c.parse_most.ensures
    ∙ signed-plain _ (mark-other 45 c.args.s.now (omega arith) c.in-None.ensures.cases)
