-- Goals of `write::Writer::enddefinitions` that the search leaves.
use mathlib.Core.Path.{refl}
use native.Mathlib.Omega.{arith}
use borrow.Author.Tests.{eq-eqb}
use Rattle.write.specs.Layout.{layout, state_after}
use Rattle.write.specs.Call.{call}
use Rattle.text.proofs.Limit.{none-long}
use Rattle.write.proofs.Outcomes.{laid_out}
use Rattle.write.proofs.Writer.enddefinitions.Goals as goal

pub returns : goal.returns
unfolding call state_after layout
returns c = laid_out _ _ _ _ _ none-long (eq-eqb c.args.self.depth 0 (omega arith)) c.laid.ensures c.emit_bare.ensures refl refl
