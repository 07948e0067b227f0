-- Goals of `parser_part::word::fast_long_id` that the search leaves.
use Rattle.std.proofs.Common.{sym, ◌∙◌, arith}
use Rattle.parser_part.proofs.FastWords.{id-start, id-more, id-end, power-fits, product-fits}
use Rattle.parser_part.proofs.word.fast_long_id.Goals as goal

pub loop-i-init : goal.loop-i-init
loop-i-init c =
    rw c.wide-sum.ensures (id-start c.args.input.now c.args.at (omega arith) (omega arith) (omega arith))

pub returns-then-whitespace_byte : goal.returns-then-whitespace_byte
returns-then-whitespace_byte c =
    id-end _ _ _ _ _ c.loop-i.invariant c.loop-i-test.true (sym c.whitespace_byte.ensures ∙ c.if-whitespace_byte.true)

pub overflow_mul-sum : goal.overflow_mul-sum
overflow_mul-sum c =
    let d = c.loop-i.invariant in
    rw c.wide.ensures (omega (arith, power-fits _ _ _ _ _ d c.if-at-i.false, product-fits _ _ _ _ _ d _ c.if-b-gt126.false))

pub overflow_add-sum : goal.overflow_add-sum
overflow_add-sum c =
    let d = c.loop-i.invariant in
    rw c.wide.ensures (omega (arith, d.small, power-fits _ _ _ _ _ d c.if-at-i.false, product-fits _ _ _ _ _ d _ c.if-b-gt126.false))

pub overflow_mul-power : goal.overflow_mul-power
overflow_mul-power c = omega (arith, power-fits _ _ _ _ _ c.loop-i.invariant c.if-at-i.false)

pub loop-i-preserved : goal.loop-i-preserved
loop-i-preserved c =
    let more = id-more _ _ _ _ _ c.loop-i.invariant c.loop-i-test.true c.if-at-i.false c.if-b-lt33.false c.if-b-gt126.false in
    rw c.wide.ensures more
