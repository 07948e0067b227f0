-- Goals of `list_job::turn_begin` that the search leaves.
use Rattle.list_job.proofs.Putting.{begin-long, begin-whole, begin-refused}
use Rattle.list_job.proofs.turn_begin.Goals as goal

pub returns-then-input-gt-TAKEN : goal.returns-then-input-gt-TAKEN
returns-then-input-gt-TAKEN c =
    let x = c.args in
    begin-long x.input.now x.rows.now x.out.now c.if-input-gt-TAKEN.true c.put_long.ensures c.last.ensures

pub returns-in-Ok : goal.returns-in-Ok
returns-in-Ok c =
    let x = c.args in
    let h = c.read_header-h in
    begin-whole x.input.now x.rows.now x.out.now c.if-input-gt-TAKEN.false c.start.ensures h.ensures.answer h.ensures.table c.in-Ok.is

pub returns-in-Err : goal.returns-in-Err
returns-in-Err c =
    let x = c.args in
    let h = c.read_header-h in
    begin-refused x.input.now x.rows.now x.out.now c.if-input-gt-TAKEN.false c.start.ensures h.ensures.answer h.ensures.table
    c.in-Err.is c.put_met.ensures c.last-in-Err.ensures
