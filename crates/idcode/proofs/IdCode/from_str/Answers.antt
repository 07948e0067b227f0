-- Goals of `idcode::IdCode::from_str` that the search leaves.
use Prim.Native.Nat.{◌+◌, ◌-◌, ◌<◌}
use mathlib.Core.Path.{◌≡◌, sym, ◌∙◌}
use native.Mathlib.Omega.{arith}
use borrow.Author.Tests.{eqb-true, eqb-false, ltb-false}
use lib.ListN.{length, get_or, length-append}
use Rattle.std.proofs.lemmas.Iterator.Adapters.{YieldsList-from_rev_slice}
use Rattle.std.proofs.lemmas.Iterator.Consumers.{YieldsList-turn, YieldsList-end}
use Rattle.std.proofs.lemmas.List.{length-reverse}
use Rattle.text.proofs.Slices.{reversed}
use Rattle.idcode.proofs.Laws.{low_byte, high_byte}
use Rattle.idcode.proofs.Reading.{read_none, read-start, read-bad, read-long, read_more, read_done, read_some}
use Rattle.idcode.proofs.IdCode.from_str.Goals as goal
use Rattle.idcode.proofs.IdCode.from_str.Goals.{In-Some, In-None, then-b-lt33-via-then-b-lt33, then-b-lt33-via-else-b-lt33+then-b-gt126}

-- where the byte of a turn stands, and that each had its turn
turn : (c : In-Some) → let s = c.args.s.now in let k = length c.loop-b.yielded in (k < length s) × (c.in-Some.field-0.now ≡ get_or s (length s - k - 1) 0)
turn c =
    reversed _ _ _ (YieldsList-turn (YieldsList-from_rev_slice c.args.s.now cc) _ _ c.loop-b.yielded_by _ _ _ c.in-Some.is c.next.ensures.steps)

all : (c : In-None) → length c.loop-b.yielded ≡ length c.args.s.now
all c =
    (YieldsList-end (YieldsList-from_rev_slice c.args.s.now cc) _ _ c.loop-b.yielded_by _ _ c.in-None.is c.next.ensures.steps).1
    ∙ length-reverse c.args.s.now

pub returns-then-is_empty : goal.returns-then-is_empty
returns-then-is_empty c = read_none _ (eqb-true _ _ (sym c.is_empty.ensures ∙ c.if-is_empty.true))

pub loop-b-init : goal.loop-b-init
loop-b-init c =
    let z : length c.args.s.now - 0 ≡ length c.args.s.now = omega arith in
    rw z (read-start _ (eqb-false _ _ (sym c.is_empty.ensures ∙ c.if-is_empty.false)))

pub returns-then-b-lt33 : goal.returns-then-b-lt33
returns-then-b-lt33 c =
    let t = turn (goal.at.returns-then-b-lt33 c).In-Some in
    read-bad _ _ _ c.loop-b.invariant (omega arith)
    (rw (sym t.1)
    (elim c.then-b-lt33.branch [ then-b-lt33-via-then-b-lt33 w ↦ low_byte _ w.if-b-lt33.true | then-b-lt33-via-else-b-lt33+then-b-gt126 w ↦ high_byte _ w.if-b-gt126.true ]))

pub returns-then-c-sum : goal.returns-then-c-sum
returns-then-c-sum c =
    let t = turn (goal.at.returns-then-c-sum c).In-Some in
    read-long _ _ _ c.loop-b.invariant (omega arith) (omega arith) (omega arith) (omega (arith, ltb-false))

pub loop-b-preserved : goal.loop-b-preserved
loop-b-preserved c =
    let t = turn (goal.at.loop-b-preserved c).In-Some in
    let k = length c.loop-b.yielded in
    let s = c.args.s.now in
    let next : length s - (k + 1) ≡ length s - k - 1 = omega arith in
    simp length-append
    (rw (next, t.1) (read_more _ _ _ c.loop-b.invariant (omega arith) (omega arith) (omega arith) (omega (arith, ltb-false))))

pub overflow_sub-result : goal.overflow_sub-result
overflow_sub-result c = let e = all (goal.at.overflow_sub-result c).In-None in read_some _ _ _ c.loop-b.invariant (omega arith)

pub returns : goal.returns
returns c = let e = all (goal.at.returns c).In-None in read_done _ _ _ c.loop-b.invariant (omega arith)
