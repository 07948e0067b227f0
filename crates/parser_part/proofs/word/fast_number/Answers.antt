-- Goals of `parser_part::word::fast_number` that the search leaves.
use Rattle.std.proofs.Common.{arith}
use Rattle.parser_part.proofs.FastWords.{digits-start, digits_more, digits-judged, digits-fit}
use Rattle.parser_part.proofs.word.fast_number.Goals as goal

pub loop-i-init : goal.loop-i-init
loop-i-init c =
    let s = c.args.input.now in
    let e = c.least-stop.ensures in
    (omega arith, omega arith, rw c.wide-v.ensures (digits-start s c.args.at (omega arith) c.if-first-lt48.false c.if-first-gt57.false))

pub returns-then-d-gt9 : goal.returns-then-d-gt9
returns-then-d-gt9 c = rw c.number_end.ensures (digits-judged _ _ _ _ c.loop-i.invariant.2 (omega arith))

pub overflow_mul-v : goal.overflow_mul-v
overflow_mul-v c = omega (arith, digits-fit _ _ _ _ c.loop-i.invariant.2)

pub overflow_add-v : goal.overflow_add-v
overflow_add-v c = omega (arith, digits-fit _ _ _ _ c.loop-i.invariant.2)

pub loop-i-preserved : goal.loop-i-preserved
loop-i-preserved c =
    let inv = c.loop-i.invariant in
    let d = c.digit-d.ensures c.if-d-gt9.false in
    (inv.0, inv.1, rw d.2 (digits_more _ _ _ _ inv.2 (omega arith) (omega arith) d.0 d.1))
