-- Goals of `reformat_job::turn_begin` that the search leaves.
use Rattle.reformat_job.proofs.Calls.{begin-long, begin-whole, begin-refused}
use Rattle.reformat_job.proofs.turn_begin.Goals as goal

pub returns-then-input-gt-TAKEN : goal.returns-then-input-gt-TAKEN
returns-then-input-gt-TAKEN c = let x = c.args in
    let p = c.put_long.ensures in
    begin-long x.input.now x.out.now x.rows.now c.if-input-gt-TAKEN.true c.last.ensures p.0 p.1

pub returns-in-Ok : goal.returns-in-Ok
returns-in-Ok c = let x = c.args in
    let h = c.read_header-h.ensures in
    let p = c.turn_header.ensures in
    begin-whole x.input.now x.rows.now x.out.now c.if-input-gt-TAKEN.false c.start.ensures h.answer h.table c.in-Ok.is p.answer p.bytes

pub returns-in-Err : goal.returns-in-Err
returns-in-Err c = let x = c.args in
    let h = c.read_header-h.ensures in
    begin-refused x.input.now x.rows.now x.out.now c.if-input-gt-TAKEN.false c.start.ensures h.answer h.table c.in-Err.is
