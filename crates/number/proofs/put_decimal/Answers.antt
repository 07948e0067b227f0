-- Goals of `number::put_decimal` that the search leaves.
use native.Mathlib.Omega.{arith}
use Rattle.text.proofs.Rows.{no_room}
use Rattle.number.specs.Decimal.{decimal_of}
use Rattle.number.proofs.Filling.{fill_start, fill_more, fill-put}
use Rattle.number.proofs.put_decimal.Goals as goal

pub returns-then-out-len : goal.returns-then-out-len
returns-then-out-len c = no_room (decimal_of c.args.n) _ (omega arith)

pub loop-i-init : goal.loop-i-init
loop-i-init c = fill_start _ _ _ c.digits-len.ensures c.if-out-len.false

pub loop-i-preserved : goal.loop-i-preserved
loop-i-preserved c = fill_more _ _ _ _ _ c.loop-i.invariant (omega arith)

pub returns : goal.returns
returns c = fill-put _ _ _ _ _ c.digits-len.ensures (omega arith) _ c.loop-i.invariant
