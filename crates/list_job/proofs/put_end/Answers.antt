-- Goals of `list_job::put_end` that the search leaves.
use Rattle.list_job.proofs.Putting.{end-full, end_whole, end-other}
use Rattle.list_job.proofs.put_end.Goals as goal

pub returns-then-is_full : goal.returns-then-is_full
returns-then-is_full c =
    let x = c.args in
    end-full x.name.now x.ended x.out.now c.in-Err.is c.is_full.ensures c.if-is_full.true c.counted.ensures c.put_full.ensures

pub returns-in-Ok : goal.returns-in-Ok
returns-in-Ok c =
    let x = c.args in
    end_whole x.name.now x.ended x.out.now c.in-Ok.is

pub returns-else-is_full : goal.returns-else-is_full
returns-else-is_full c =
    let x = c.args in
    end-other x.name.now x.ended x.out.now c.in-Err.is c.is_full.ensures c.if-is_full.false
