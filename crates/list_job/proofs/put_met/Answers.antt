-- Goals of `list_job::put_met` that the search leaves.
use Rattle.list_job.proofs.Putting.{met-none, met-line}
use Rattle.list_job.proofs.put_met.Goals as goal

pub returns-in-None : goal.returns-in-None
returns-in-None c =
    let x = c.args in
    met-none x.met x.out.now c.in-None.is

pub returns-in-Some : goal.returns-in-Some
returns-in-Some c =
    let x = c.args in
    met-line x.met x.out.now c.in-Some.is c.number.ensures c.counted.ensures c.put_refused.ensures
