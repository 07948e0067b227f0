-- Goals of `emit::put` that the search leaves.
use mathlib.Core.Path.{refl}
use native.Mathlib.Omega.{arith}
use Rattle.emit.proofs.Storing.{stored-none, stored-step}
use Rattle.emit.proofs.put.Goals as goal

pub loop-i-init : goal.loop-i-init
loop-i-init c = stored-none _ _

pub loop-i-preserved : goal.loop-i-preserved
loop-i-preserved c =
    let a = c.args in
    let l = c.loop-i in
    stored-step a.out.now a.word.now a.at l.i l.invariant refl refl (omega arith) (omega arith)
