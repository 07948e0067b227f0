-- Goals of `idcode::IdCode::len` that the search leaves.
use native.Mathlib.Omega.{arith}
use Rattle.idcode.proofs.Laws.{text-length}
use Rattle.idcode.proofs.Spelling.{length-one, length_more}
use Rattle.idcode.proofs.IdCode.len.Goals as goal

pub overflow_add-n : goal.overflow_add-n
overflow_add-n c = omega (arith, text-length c.args.self.0 (omega arith))

pub loop-rest-preserved : goal.loop-rest-preserved
loop-rest-preserved c = omega (arith, length_more _ c.loop-rest-test.true)

pub returns : goal.returns
returns c = omega (arith, length-one _ c.loop-rest-test.false)
