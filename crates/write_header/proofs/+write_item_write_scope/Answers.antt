-- The goals of the cycle of calls {write_item, write_scope} that the search leaves.
use mathlib.Core.Path.{sym, ◌∙◌}
use native.Mathlib.Omega.{arith}
use Rattle.std.proofs.lemmas.Result.{err_from_is_err_and}
use Rattle.write_header.proofs.Items.{leaf, no_row, no-level, not_opened, nested}
use Rattle.write_header.proofs.Places.{scope-placed, comment-placed}
use Rattle.write_header.proofs.Rows.{here-comment}
use Rattle.write_header.proofs.+write_item_write_scope.Goals as goal

pub write_item-returns-then-levels-eq0 : goal.write_item-returns-then-levels-eq0
write_item-returns-then-levels-eq0 t c =
    let a = c.args in
    no-level a.src.now a.rows.now a.n a.levels a.i a.out.now a.at a.w c.requires.0
    (sym c.row_at.ensures ∙ c.in-Scope.is) c.if-levels-eq0.true _

pub write_item-write_one-requires : goal.write_item-write_one-requires
write_item-write_one-requires t c =
    let p = c.requires in
    (p.3, scope-placed _ _ _ _ p.4 p.0 (sym c.row_at.ensures ∙ c.in-Scope.is))

pub write_item-write_one-requires-in-Comment : goal.write_item-write_one-requires-in-Comment
write_item-write_one-requires-in-Comment t c =
    let p = c.requires in
    (p.3, comment-placed _ _ _ _ p.4 p.0 (sym c.row_at.ensures ∙ c.in-Comment.is))

pub write_item-returns-in_ok-next-in-Scope : goal.write_item-returns-in_ok-next-in-Scope
write_item-returns-in_ok-next-in-Scope t c =
    let a = c.args in
    let p = c.requires in
    let x = rw c.in_ok-next-in-Scope.was at c.write_one.ensures in
    nested a.src.now a.rows.now a.n a.levels a.i a.out.now a.at a.w p.0
    (sym c.row_at.ensures ∙ c.in-Scope.is) (omega (arith, p.0, p.1)) c.if-levels-eq0.false _ _ _ x.2
    c.write_scope.result c.close.result _ _ (rw x.0 at c.write_scope.ensures) c.close.ensures

pub write_item-returns-in_err-next-in-Scope : goal.write_item-returns-in_err-next-in-Scope
write_item-returns-in_err-next-in-Scope t c =
    let a = c.args in
    let e = err_from_is_err_and c.from_residual.result c.from_residual.ensures.1 in
    rw (e.1, e.2)
    (not_opened a.src.now a.rows.now a.n a.levels a.i a.out.now a.at a.w c.requires.0
    (sym c.row_at.ensures ∙ c.in-Scope.is) _ (rw c.in_err-next-in-Scope.was at c.write_one.ensures))

pub write_item-returns-in-Comment : goal.write_item-returns-in-Comment
write_item-returns-in-Comment t c =
    let a = c.args in
    let l = c.requires.0 in
    leaf a.src.now a.rows.now a.n a.levels a.i a.out.now a.at a.w l _
    (λ st k g. here-comment a.src.now a.rows.now a.n a.i st l k g (sym c.row_at.ensures ∙ c.in-Comment.is))
    c.write_one-in-Comment.result _ c.write_one-in-Comment.ensures

pub write_item-returns-in-None : goal.write_item-returns-in-None
write_item-returns-in-None t c =
    let a = c.args in
    no_row a.src.now a.rows.now a.n a.levels a.i a.out.now a.at a.w c.requires.0
    (sym c.row_at.ensures ∙ c.in-None.is) _
