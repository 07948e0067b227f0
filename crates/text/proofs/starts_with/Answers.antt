-- Goals of `text::starts_with` that the search leaves.
use mathlib.Core.Path.{◌∙◌}
use Rattle.text.proofs.Slices.{starts-pointwise}
use Rattle.text.proofs.starts_with.Goals as goal

pub returns : goal.returns
returns c = c.starts_with.ensures.value ∙ starts-pointwise _ _
