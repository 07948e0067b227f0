-- Goals of `write_header::header` that the search leaves.
use mathlib.Core.Path.{sym, ◌∙◌}
use Rattle.rows.specs.Rows.{rows_of}
use Rattle.std.proofs.lemmas.Result.{err_from_is_err_and}
use Rattle.write_header.specs.Meanings.{row_meanings}
use Rattle.write_header.specs.Pour.{stop}
use mathlib.Core.List.{[]}
use Rattle.write_header.proofs.Calls.{bad-place, bad-table, call-pours, of-outcome, does-too}
use Rattle.write_header.proofs.Places.{inside}
use Rattle.write_header.proofs.header.Goals as goal

pub returns-then-misplaced : goal.returns-then-misplaced
returns-then-misplaced c = bad-place _ _ _ _ _ _ (sym c.misplaced.ensures ∙ c.if-misplaced.true)

pub returns-then-not-good_table : goal.returns-then-not-good_table
returns-then-not-good_table c =
    bad-table _ _ _ _ _ _ (sym c.misplaced.ensures ∙ c.if-misplaced.false) (sym c.good_table.ensures ∙ c.if-not-good_table.true)

pub write_kept-requires : goal.write_kept-requires
write_kept-requires c =
    let a = c.args in
    let x = inside a.src.now a.h a.rows.now a.count (sym c.misplaced.ensures ∙ c.if-misplaced.false) in
    (x.2.short, x.0, x.1)

pub write_rows-requires : goal.write_rows-requires
write_rows-requires c =
    let a = c.args in
    let x = inside a.src.now a.h a.rows.now a.count (sym c.misplaced.ensures ∙ c.if-misplaced.false) in
    let y = rw c.in_ok-at.was at c.write_kept.ensures in
    (y.1, x.2, sym c.good_table.ensures ∙ c.if-not-good_table.false)

pub returns : goal.returns
returns c =
    let a = c.args in
    let y = rw c.in_ok-at.was at c.write_kept.ensures in
    let q = call-pours a.w a.src.now a.h a.rows.now a.count a.out.now (sym c.misplaced.ensures ∙ c.if-misplaced.false) (sym c.good_table.ensures ∙ c.if-not-good_table.false) in
    does-too (q ∙ y.2 (row_meanings a.src.now 0 [] (rows_of a.rows.now a.count))) c.write_rows.ensures

pub returns-in_err-at : goal.returns-in_err-at
returns-in_err-at c =
    let a = c.args in
    let y = rw c.in_err-at.was at c.write_kept.ensures in
    let q = call-pours a.w a.src.now a.h a.rows.now a.count a.out.now (sym c.misplaced.ensures ∙ c.if-misplaced.false) (sym c.good_table.ensures ∙ c.if-not-good_table.false) in
    let e = err_from_is_err_and c.from_residual.result c.from_residual.ensures.1 in
    rw (e.1, e.2)
    (of-outcome (stop _ _ _ _) (q ∙ y (row_meanings a.src.now 0 [] (rows_of a.rows.now a.count))))
