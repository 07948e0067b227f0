-- Goals of `find::find` that the search leaves.
use Rattle.std.specs.Prelude.{Ok}
use mathlib.Core.Path.{ap, sym, ◌∙◌}
use Rattle.text.proofs.Limit.{too_long_lem, not-long}
use Rattle.find.specs.Find.{found}
use Rattle.find.proofs.find.Goals as goal

pub returns-then-input-gt-LIMIT : goal.returns-then-input-gt-LIMIT
unfolding found
returns-then-input-gt-LIMIT c = rw (too_long_lem _ c.if-input-gt-LIMIT.true)

pub returns-then-some_outside : goal.returns-then-some_outside
unfolding found
returns-then-some_outside c = rw (not-long _ c.if-input-gt-LIMIT.false, sym c.some_outside.ensures ∙ c.if-some_outside.true)

pub returns : goal.returns
unfolding found
returns c = rw (not-long _ c.if-input-gt-LIMIT.false, sym c.some_outside.ensures ∙ c.if-some_outside.false) (ap Ok c.seek.ensures)
