-- Goals of `utf8::valid` that the search leaves.
use mathlib.Core.Path.{refl, ◌∙◌}
use native.Mathlib.Omega.{arith}
use Rattle.text.proofs.Lists.{take_rest}
use Rattle.utf8.proofs.WellFormed.{read-start, read_done}
use Rattle.utf8.proofs.valid.Goals as goal

pub loop-b-init : goal.loop-b-init
loop-b-init c = read-start _ _ _ _ (omega arith, refl)

pub returns : goal.returns
returns c = rw (take_rest c.args.s.now _) at (read_done _ _ _ c.loop-b.invariant (omega arith)) ∙ c.ascii_end.ensures.1
