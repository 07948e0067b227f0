-- What the loops of `tree::unwind` keep.
use Prim.Native.Nat.{ℕ, ◌-◌}
use Rattle.tree.specs.Chain.{Under, Unwound}
use Rattle.tree.proofs.unwind.Given as goal

abbrev pub invariant-loop-closed : goal.invariant-loop-closed
invariant-loop-closed l =
    Under l.rows l.cur (l.count - l.closed)
    × ((cur' d' : ℕ) → Unwound l.rows l.p l.cur (l.count - l.closed) cur' d' → Unwound l.rows l.p l.first l.count cur' d')
