-- Goals of `emit::put_lower` that the search leaves.
use mathlib.Core.Path.{refl, sym, ◌∙◌}
use mathlib.Core.List.{map}
use native.Mathlib.Omega.{arith}
use lib.ListN.{length-map}
use Rattle.value.specs.Values.{lower}
use Rattle.value.proofs.Vectors.{lower-at}
use Rattle.emit.proofs.Storing.{stored-none, stored-step}
use Rattle.emit.proofs.put_lower.Goals as goal

pub loop-i-init : goal.loop-i-init
loop-i-init c = stored-none _ _

pub loop-i-preserved : goal.loop-i-preserved
loop-i-preserved c =
    let a = c.args in
    let l = c.loop-i in
    stored-step a.out.now (map lower a.word.now) a.at l.i l.invariant refl (c.lowered-low.ensures ∙ sym (lower-at a.word.now l.i))
    (omega arith) (simp length-map (omega arith))
