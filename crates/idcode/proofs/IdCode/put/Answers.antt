-- Goals of `idcode::IdCode::put` that the search leaves.
use Prim.Native.Nat.{◌≤◌}
use native.Mathlib.Omega.{arith}
use borrow.Author.Tests.{ltb-true}
use lib.ListN.{length}
use Rattle.text.proofs.Rows.{copy_start, copy-length, no_room}
use Rattle.idcode.specs.Id.{id_text}
use Rattle.idcode.proofs.Laws.{text-length}
use Rattle.idcode.proofs.Spelling.{spell-start, inside, spell-more, copy-next, copied}
use Rattle.idcode.proofs.IdCode.put.Goals as goal
use Rattle.idcode.proofs.IdCode.put.Goals.{else-out-lt10-via-then-out-lt10+else-out-len, else-out-lt10-via-else-out-lt10}

pub returns-then-out-len : goal.returns-then-out-len
returns-then-out-len c = no_room (id_text c.args.self.0) _ (omega (arith, ltb-true, c.len.ensures))

pub loop-rest-init : goal.loop-rest-init
loop-rest-init c =
    let x = c.args in
    let short = text-length x.self.0 (omega arith) in
    let room : length (id_text x.self.0) ≤ length x.out.now =
    elim c.else-out-lt10.branch [ else-out-lt10-via-then-out-lt10+else-out-len w ↦ omega (arith, w.len.ensures) | else-out-lt10-via-else-out-lt10 w ↦ omega arith ] in
    (spell-start x.self.0 (omega arith), copy_start _ _ room)

pub bounds-out-n : goal.bounds-out-n
bounds-out-n c = let i = c.loop-rest.invariant in omega (arith, inside _ _ _ i.0, copy-length _ _ _ _ i.1)

pub returns-then-more-eq0 : goal.returns-then-more-eq0
returns-then-more-eq0 c = let i = c.loop-rest.invariant in copied _ _ _ i.0 i.1 (omega arith)

pub loop-rest-preserved : goal.loop-rest-preserved
loop-rest-preserved c = let i = c.loop-rest.invariant in (spell-more _ _ _ i.0 (omega arith), copy-next _ _ _ i.0 i.1)
