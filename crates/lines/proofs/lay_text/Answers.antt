-- Goals of `lines::lay_text` that the search leaves.
use native.Mathlib.Nat.{zero-add}
use Rattle.lines.proofs.Laying.{laid_none, laid}
use Rattle.lines.proofs.lay_text.Goals as goal

pub returns-then-not-has_room : goal.returns-then-not-has_room
returns-then-not-has_room c =
    let x = c.args in
    laid_none x.name.now x.time.now x.line.now x.value.now x.out.now 0 _ (zero-add _) c.has_room.ensures c.if-not-has_room.true-raw

pub returns : goal.returns
returns c =
    let x = c.args in
    laid x.name.now x.time.now x.line.now x.value.now x.out.now 0 _ (zero-add _) c.has_room.ensures c.if-not-has_room.false-raw
    c.put_five-n.ensures c.put_five.ensures
