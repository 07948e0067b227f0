-- Goals of `write_header::write_rows` that the search leaves.
use native.Mathlib.Omega.{arith}
use Rattle.std.proofs.lemmas.Result.{err_from_is_err_and}
use Rattle.write_header.proofs.Calls.{rows-stop, end-stop, end_whole}
use Rattle.write_header.proofs.Rows.{good-parts}
use Rattle.write_header.proofs.write_rows.Goals as goal

pub write_scope-requires : goal.write_scope-requires
write_scope-requires c =
    let a = c.args in
    let p = c.requires in
    (omega arith, (good-parts a.rows.now a.n p.2).0, omega arith, p.0, p.1)

pub returns : goal.returns
returns c =
    let a = c.args in
    end_whole a.src.now a.rows.now a.n a.out.now a.at a.w c.requires.2
    _ _ _ c.write_scope.new.out
    (rw c.in_ok-past.was at c.write_scope.ensures) (rw c.in_ok-end.was at c.write_one.ensures)

pub returns-in_err-end : goal.returns-in_err-end
returns-in_err-end c =
    let a = c.args in
    let e = err_from_is_err_and c.from_residual-in_err-end.result c.from_residual-in_err-end.ensures.1 in
    rw (e.1, e.2)
    (end-stop a.src.now a.rows.now a.n a.out.now a.at a.w c.requires.2
    _ _ _ c.write_scope.new.out
    (rw c.in_ok-past.was at c.write_scope.ensures) (rw c.in_err-end.was at c.write_one.ensures))

pub returns-in_err-past : goal.returns-in_err-past
returns-in_err-past c =
    let a = c.args in
    let e = err_from_is_err_and c.from_residual.result c.from_residual.ensures.1 in
    rw (e.1, e.2)
    (rows-stop a.src.now a.rows.now a.n a.out.now a.at a.w c.requires.2
    (rw c.in_err-past.was at c.write_scope.ensures))
