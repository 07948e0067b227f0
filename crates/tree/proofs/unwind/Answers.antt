-- Goals of `tree::unwind` that the search leaves.
use Prim.Native.Nat.{suc, ◌+◌, ◌-◌}
use mathlib.Core.Path.{◌≡◌}
use native.Mathlib.Nat.{sub-zero}
use native.Mathlib.Omega.{arith}
use Rattle.tree.proofs.Chains.{next_under, found, none_left, closed}
use Rattle.tree.proofs.unwind.Goals as goal

pub loop-closed-init : goal.loop-closed-init
loop-closed-init c = rw sub-zero (c.requires, λ cur' d' u. u)

pub returns-then-cur-p : goal.returns-then-cur-p
returns-then-cur-p c =
    let l = c.loop-closed in
    l.invariant.1 l.cur _ (found _ _ _ _ (omega arith) c.if-cur-p.true l.invariant.0)

pub loop-closed-preserved : goal.loop-closed-preserved
loop-closed-preserved c =
    let l = c.loop-closed in
    let one : c.args.count - l.closed ≡ suc (c.args.count - (l.closed + 1)) = omega arith in (
      next_under _ _ _ _ c.parent_at-cur.ensures one l.invariant.0,
      λ cur' d' u. l.invariant.1 cur' d' (closed _ _ _ _ _ _ _ _ one c.if-cur-p.false c.parent_at-cur.ensures u),
    )

pub returns : goal.returns
returns c = let l = c.loop-closed in l.invariant.1 l.cur 0 (none_left _ _ _ _ (omega arith))
