-- Goals of `number::digits` that the search leaves.
use native.Mathlib.Omega.{arith}
use Rattle.number.proofs.Writing.{some, short, length-one, length_more}
use Rattle.number.proofs.digits.Goals as goal

pub overflow_add-count : goal.overflow_add-count
overflow_add-count c =
    omega (arith, short 19 c.args.n (omega arith), some c.loop-rest.rest)

pub loop-rest-preserved : goal.loop-rest-preserved
loop-rest-preserved c = omega (arith, length_more _ c.loop-rest-test.true)

pub returns : goal.returns
returns c = omega (arith, length-one _ c.loop-rest-test.false)
