-- What the loops of `listing::list_on` keep.
use Prim.Native.Nat.{◌-◌}
use lib.ListN.{length}
use Rattle.token.specs.Read.{Valid}
use Rattle.listing.proofs.Listed.{Listed}
use Rattle.listing.proofs.list_on.Given as goal

abbrev pub invariant-loop-d : goal.invariant-loop-d
invariant-loop-d l = Valid l.input l.cur × Listed l.input l.code l.initial.cur l.initial.last l.initial.rows l.rows l.cur l.n l.last

abbrev pub decreases-loop-d : goal.decreases-loop-d
decreases-loop-d l = length l.input - l.cur.place
