-- Goals of `fast::eight` that the search leaves.
use Rattle.std.proofs.Common.{eqb-true}
use Rattle.text.proofs.Counting.{eight-counted}
use Rattle.fast.proofs.Short.{Digit}
use Rattle.fast.proofs.eight.Goals as goal

pub returns : goal.returns
returns c =
    λ e.
    eight-counted Digit c.args.input.now c.args.at
    c.is_digit.ensures c.is_digit-2.ensures
    c.is_digit-3.ensures c.is_digit-4.ensures
    c.is_digit-5.ensures c.is_digit-6.ensures
    c.is_digit-7.ensures c.is_digit-8.ensures
    (eqb-true _ _ e)
