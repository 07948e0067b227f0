-- Goals of `rows::RowWords::row` that the search leaves.
use mathlib.Core.Path.{sym, ◌∙◌}
use Rattle.rows.proofs.Peeking.{is-scope, is-var, is-comment}
use Rattle.rows.proofs.RowWords.row.Goals as goal

pub var-requires : goal.var-requires
var-requires c = (is-var _ (sym c.row_kind.ensures ∙ c.in-2.is)).0

pub returns-in-1 : goal.returns-in-1
returns-in-1 c =
    rw (c.parent_of.ensures, c.from_number.ensures)
    (sym (is-scope _ (sym c.row_kind.ensures ∙ c.in-1.is)))

pub returns-in-2 : goal.returns-in-2
returns-in-2 c =
    rw (c.parent_of-in-2.ensures, c.var.ensures)
    (sym (is-var _ (sym c.row_kind.ensures ∙ c.in-2.is)).2)

pub returns-in-3 : goal.returns-in-3
returns-in-3 c = rw c.parent_of-in-3.ensures (sym (is-comment _ (sym c.row_kind.ensures ∙ c.in-3.is)))
