-- Goals of `number::decimal` that the search leaves.
use native.Mathlib.Omega.{arith}
use Rattle.number.proofs.Writing.{short}
use Rattle.number.proofs.Filling.{fill_start, fill_more, fill-spelled}
use Rattle.number.proofs.decimal.Goals as goal

pub loop-i-init : goal.loop-i-init
loop-i-init c = fill_start _ _ _ c.digits-len.ensures (omega (arith, short 19 c.args.n (omega arith)))

pub loop-i-preserved : goal.loop-i-preserved
loop-i-preserved c = fill_more _ _ _ _ _ c.loop-i.invariant (omega arith)

pub returns : goal.returns
returns c = fill-spelled _ _ _ _ _ c.digits-len.ensures (omega arith) c.loop-i.invariant
