-- What the loops of `listing::fast_run` keep.
use Prim.Native.Nat.{◌-◌}
use Rattle.listing.proofs.Passing.{Running}
use Rattle.listing.proofs.fast_run.Given as goal

abbrev pub invariant-loop : goal.invariant-loop
invariant-loop l = Running l.input l.code l.initial.cur l.before l.cur l.last (l.most - l.counter)
