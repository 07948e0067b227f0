-- Goals of `tree::place::row_outside` that the search leaves.
use mathlib.Core.Path.{sym, ◌∙◌}
use Rattle.tree.proofs.Places.{row-outside}
use Rattle.tree.proofs.place.row_outside.Goals as goal

pub returns-then-within : goal.returns-then-within
returns-then-within c =
    let a = c.requires in
    rw (row-outside _ _ _ a, sym c.within.ensures ∙ c.if-within.true)

pub returns : goal.returns
returns c =
    let a = c.requires in
    rw (row-outside _ _ _ a, ← c.kind_at.ensures, sym c.within.ensures ∙ c.if-within.false)
