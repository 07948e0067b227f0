-- Goals of `text::plain_eight` that the search leaves.
use Prim.Native.Nat.{◌<◌}
use borrow.Author.Tests.{eqb-true}
use Rattle.text.proofs.Counting.{eight-counted}
use Rattle.text.proofs.plain_eight.Goals as goal

pub returns : goal.returns
returns c e =
    let a = c.args in
    eight-counted (λ b. (32 < b) × (b < 127)) a.s.now a.at
    c.plain.ensures c.plain-2.ensures
    c.plain-3.ensures c.plain-4.ensures
    c.plain-5.ensures c.plain-6.ensures
    c.plain-7.ensures c.plain-8.ensures
    (eqb-true _ _ e)
