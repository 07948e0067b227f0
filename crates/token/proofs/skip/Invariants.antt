-- What the loops of `token::skip` keep.
use Prim.Native.Nat.{◌+◌}
use mathlib.Core.Path.{◌≡◌}
use Rattle.token.specs.Read.{Valid, skipped}
use Rattle.token.proofs.skip.Given as goal

abbrev pub invariant-loop-b : goal.invariant-loop-b
invariant-loop-b l = Valid l.input l.cur × (l.cur.place ≡ l.initial.cur.place + l.b-index) × (skipped l.input l.cur ≡ skipped l.input l.initial.cur)
