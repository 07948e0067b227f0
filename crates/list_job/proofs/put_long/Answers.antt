-- Goals of `list_job::put_long` that the search leaves.
use Rattle.lines.specs.Lines.{long_line}
use Rattle.list_job.proofs.Putting.{puts-line}
use Rattle.list_job.proofs.put_long.Goals as goal

pub returns : goal.returns
returns c =
    let e = c.put_long.ensures in
    puts-line long_line c.args.out.now c.counted.ensures e.0 e.1
