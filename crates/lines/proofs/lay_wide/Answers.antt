-- Goals of `lines::lay_wide` that the search leaves.
use Rattle.lines.proofs.Laying.{wide, wide-length, laid_none, laid}
use Rattle.lines.proofs.lay_wide.Goals as goal

pub returns-then-not-has_room : goal.returns-then-not-has_room
returns-then-not-has_room c =
    let x = c.args in
    laid_none x.name.now x.time.now x.line.now (wide x.zeros x.value.now) x.out.now x.zeros _ (wide-length x.zeros x.value.now) c.has_room.ensures c.if-not-has_room.true-raw

pub returns : goal.returns
returns c =
    let x = c.args in
    laid x.name.now x.time.now x.line.now (wide x.zeros x.value.now) x.out.now x.zeros _ (wide-length x.zeros x.value.now) c.has_room.ensures c.if-not-has_room.false-raw
    c.put_five-n.ensures c.put_wide.ensures
