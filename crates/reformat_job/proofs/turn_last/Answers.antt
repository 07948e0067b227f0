-- Goals of `reformat_job::turn_last` that the search leaves.
use Rattle.reformat_job.proofs.Calls.{last-refused}
use Rattle.reformat_job.proofs.turn_last.Goals as goal

pub returns : goal.returns
returns c = let x = c.args in
    let p = c.put_refused.ensures in
    λ table. last-refused x.e x.line x.out.now table c.number.ensures c.last.ensures p.0 p.1
