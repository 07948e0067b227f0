-- Goals of `real::count_digits` that the search leaves.
use mathlib.Core.Path.{◌≡◌, ◌∙◌}
use mathlib.Core.Bool.{true, false}
use borrow.Author.Tests.{tests}
use Rattle.std.proofs.Common.{rules}
use Rattle.std.proofs.lemmas.Iterator.{IsFirst-from_position, YieldsList-from_slice}
use Rattle.number.specs.Decimal.{is_digit}
use Rattle.real.proofs.Reals.{digits-count}
use Rattle.real.proofs.count_digits.Goals as goal

pub returns : goal.returns
unfolding is_digit
returns c =
    c.unwrap_or.ensures
    ∙ digits-count _ _
    (IsFirst-from_position _ _ _ (λ b. is_digit b ≡ false) (λ b. is_digit b ≡ true) c.position.ensures.ran (YieldsList-from_slice c.args.s.now cc)
    (λ x q k. search (rules, tests)) (λ x q k. search (rules, tests)))
