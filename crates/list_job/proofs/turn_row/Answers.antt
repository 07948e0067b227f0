-- Goals of `list_job::turn_row` that the search leaves.
use mathlib.Core.Path.{refl}
use Rattle.list_job.proofs.Putting.{row-end, row-var, row-pass}
use Rattle.list_job.proofs.turn_row.Goals as goal

pub returns-then-p : goal.returns-then-p
returns-then-p c =
    let x = c.args in
    row-end x.input.now x.rows.now x.changes.now x.out.now x.p c.if-p.true c.put_met.ensures c.last.ensures

pub returns-in-Var : goal.returns-in-Var
returns-in-Var c =
    let x = c.args in
    row-var x.input.now x.rows.now x.changes.now x.out.now x.p c.if-p.false c.row_at.ensures c.in-Var.is c.turn_var.ensures

pub returns-in-Scope : goal.returns-in-Scope
returns-in-Scope c =
    let x = c.args in
    row-pass x.input.now x.rows.now x.changes.now x.out.now x.p _ c.if-p.false c.row_at.ensures c.in-Scope.is refl c.pass.ensures

pub returns-in-Comment : goal.returns-in-Comment
returns-in-Comment c =
    let x = c.args in
    row-pass x.input.now x.rows.now x.changes.now x.out.now x.p _ c.if-p.false c.row_at.ensures c.in-Comment.is refl c.pass-in-Comment.ensures

pub returns-in-None : goal.returns-in-None
returns-in-None c =
    let x = c.args in
    row-pass x.input.now x.rows.now x.changes.now x.out.now x.p _ c.if-p.false c.row_at.ensures c.in-None.is refl c.pass-in-None.ensures
