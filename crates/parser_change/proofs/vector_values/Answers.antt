-- Goals of `parser_change::vector_values` that the search leaves.
use Rattle.std.proofs.Common.{sym, ◌∙◌}
use Rattle.token.proofs.Words.{values-here}
use Rattle.parser_part.proofs.Hits.{ends-true}
use Rattle.parser_change.proofs.vector_values.Goals as goal

-- where the fast path hits
pub returns-then-ends_values : goal.returns-then-ends_values
returns-then-ends_values c =
    let h = ends-true c.args.input.now _ _ (sym c.ends_values.ensures ∙ c.if-ends_values.true) in
    rw c.word_read-next.ensures (values-here _ _ _ c.requires c.values_end-end.ensures h.0 h.1 h.2)
