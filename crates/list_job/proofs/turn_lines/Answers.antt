-- Goals of `list_job::turn_lines` that the search leaves.
use Rattle.list_job.proofs.Putting.{lines-stop, lines-some, lines_end}
use Rattle.list_job.proofs.turn_lines.Goals as goal

pub returns-then-n-l : goal.returns-then-n-l
returns-then-n-l c =
    let x = c.args in
    let e = c.put_changes-n.ensures in
    lines-stop x.input.now x.changes.now x.out.now x.p x.l c.part-name.ensures c.if-l.true e.answer e.bytes c.if-n-l.true c.last.ensures

pub returns-then-l : goal.returns-then-l
returns-then-l c =
    let x = c.args in
    let e = c.put_changes-n.ensures in
    lines-some x.input.now x.changes.now x.out.now x.p x.l c.part-name.ensures c.if-l.true e.answer e.bytes c.if-n-l.false

pub returns : goal.returns
returns c =
    let x = c.args in
    lines_end x.input.now x.changes.now x.out.now x.p x.l c.part-name.ensures c.if-l.false c.put_end.ensures c.after_listing.ensures
