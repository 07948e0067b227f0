-- Goals of `lines::put_changes` that the search leaves.
use Prim.Native.Nat.{◌-◌}
use mathlib.Core.Path.{◌≡◌, refl}
use native.Mathlib.Omega.{arith}
use borrow.Author.Rules.{rules}
use borrow.Rule.Slice.PartMut.{put_mid}
use lib.ListN.{length}
use Rattle.lines.proofs.Printing.{going_start, going_end, going-full, going_more}
use Rattle.lines.proofs.put_changes.Goals as goal

pub loop-next-init : goal.loop-next-init
loop-next-init c = let x = c.args in (going_start x.input.now x.name.now x.width x.changes.now x.from x.to x.out.now, refl)

pub loop-next-preserved : goal.loop-next-preserved
loop-next-preserved c =
    let x = c.args in (
      going_more x.input.now x.name.now x.width x.changes.now x.from x.to x.out.now _ _ _
          c.loop-next.invariant.0 c.loop-next-test.true c.change_at.ensures c.put_change.ensures _ c.in-Some.is,
      search rules,
    )

pub overflow_add-count : goal.overflow_add-count
overflow_add-count c =
    let x = c.args in
    let f = (going_more x.input.now x.name.now x.width x.changes.now x.from x.to x.out.now _ _ _
    c.loop-next.invariant.0 c.loop-next-test.true c.change_at.ensures c.put_change.ensures _ c.in-Some.is).within in
    let k : length (put_mid c.loop-next.count (length c.loop-next.out - c.loop-next.count) c.loop-next.out c.put_change.new.out) ≡ length x.out.now = search rules in
    omega (arith, f, k)

pub returns-in-None : goal.returns-in-None
returns-in-None c =
    let x = c.args in
    record { answer = (going-full x.input.now x.name.now x.width x.changes.now x.from x.to x.out.now _ _ _ c.loop-next.invariant.0 c.loop-next-test.true c.change_at.ensures c.put_change.ensures c.in-None.is).0; bytes = (going-full x.input.now x.name.now x.width x.changes.now x.from x.to x.out.now _ _ _ c.loop-next.invariant.0 c.loop-next-test.true c.change_at.ensures c.put_change.ensures c.in-None.is).1 }

pub returns : goal.returns
returns c =
    let x = c.args in
    let l = c.loop-next in
    record { answer = (going_end x.input.now x.name.now x.width x.changes.now x.from x.to x.out.now _ _ _ l.invariant.0 c.loop-next-test.false).0; bytes = (going_end x.input.now x.name.now x.width x.changes.now x.from x.to x.out.now _ _ _ l.invariant.0 c.loop-next-test.false).1 }
