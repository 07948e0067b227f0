-- Goals of `widen::is_widenable` that the search leaves.
use mathlib.Core.Path.{sym, ◌∙◌}
use Rattle.widen.proofs.Widening.{widenable-none, widenable-some}
use Rattle.widen.proofs.is_widenable.Goals as goal

pub returns-then-v-eq0 : goal.returns-then-v-eq0
returns-then-v-eq0 c = sym (widenable-none _ c.if-v-eq0.true)

pub returns : goal.returns
returns c = c.is_vector.ensures ∙ sym (widenable-some _ c.if-v-eq0.false)
