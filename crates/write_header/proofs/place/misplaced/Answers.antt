-- Goals of `write_header::place::misplaced` that the search leaves.
use mathlib.Core.Path.{sym, ◌∙◌}
use mathlib.Core.Bool.{true≢false}
use Rattle.text.proofs.Limit.{too_long_lem, not-long}
use Rattle.write_header.specs.Written.{misplaced}
use Rattle.write_header.proofs.place.misplaced.Goals as goal
use Rattle.write_header.proofs.place.misplaced.Goals.{then-kept_outside, else-kept_outside}

pub returns-then-src-gt-LIMIT : goal.returns-then-src-gt-LIMIT
unfolding misplaced
returns-then-src-gt-LIMIT c = rw (too_long_lem _ c.if-src-gt-LIMIT.true)

pub returns-then-kept_outside-2 : goal.returns-then-kept_outside-2
unfolding misplaced
returns-then-kept_outside-2 c =
    let short = not-long _ c.if-src-gt-LIMIT.false in
    let out = c.if-kept_outside-2.true in
    elim c.if-kept_outside.branch [
      | then-kept_outside w ↦ rw (out, short, sym c.kept_outside.ensures ∙ w.if-kept_outside.true)
      | else-kept_outside w ↦
          rw (
            out,
            short,
            sym c.kept_outside.ensures ∙ w.if-kept_outside.false,
            sym w.kept_outside-else-kept_outside.ensures ∙ sym w.value-is ∙ out,
          )
    ]

pub returns-else-kept_outside-2 : goal.returns-else-kept_outside-2
unfolding misplaced
returns-else-kept_outside-2 c =
    let none = c.if-kept_outside-2.false in
    elim c.if-kept_outside.branch [
      | then-kept_outside w ↦ absurd (true≢false (sym w.if-kept_outside.true ∙ sym w.value-is ∙ none))
      | else-kept_outside w ↦
          rw (
            not-long _ c.if-src-gt-LIMIT.false,
            sym c.kept_outside.ensures ∙ w.if-kept_outside.false,
            sym w.kept_outside-else-kept_outside.ensures ∙ sym w.value-is ∙ none,
          ) c.some_outside.ensures
    ]
