-- Goals of `vcd_state::put_head` that the search leaves.
use mathlib.Core.Path.{◌≡◌, ◌∙◌}
use native.Mathlib.Omega.{arith}
use lib.ListN.{length, set, length-set}
use Rattle.vcd_state.proofs.Words.{head-stored}
use Rattle.vcd_state.proofs.put_head.Goals as goal
use Rattle.vcd_state.proofs.put_head.Goals.{After-put_text-arg-1}

long : (c : After-put_text-arg-1) → length (set c.args.w.now 0 c.args.count) ≡ 10
long c = length-set c.args.w.now 0 c.args.count ∙ c.requires

pub put_text-requires : goal.put_text-requires
put_text-requires c = omega (arith, long (goal.at.put_text-requires c).After-put_text-arg-1)

pub put_text-requires-2 : goal.put_text-requires-2
put_text-requires-2 c = omega (arith, c.put_text.auto.w, long (goal.at.put_text-requires-2 c).After-put_text-arg-1)

pub put_scale-requires : goal.put_scale-requires
put_scale-requires c = omega (arith, c.put_text-2.auto.w, c.put_text.auto.w, long (goal.at.put_scale-requires c).After-put_text-arg-1)

pub shape_of-w : goal.shape_of-w
shape_of-w c = c.put_scale.auto.w ∙ c.put_text-2.auto.w ∙ c.put_text.auto.w ∙ length-set c.args.w.now 0 c.args.count

pub returns : goal.returns
returns c = c.put_scale.ensures ∙ rw (c.put_text-2.ensures, c.put_text.ensures) (head-stored c.args.w.now c.args.h c.args.count c.requires)
