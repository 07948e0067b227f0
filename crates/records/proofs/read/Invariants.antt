-- What the loops of `records::read` keep.
use Prim.Native.Nat.{◌-◌}
use lib.ListN.{length}
use Rattle.records.specs.Read.{Ran}
use Rattle.records.proofs.read.Given as goal

abbrev pub invariant-loop-n : goal.invariant-loop-n
invariant-loop-n l = Ran l.input l.initial.cur 0 l.initial.records l.cur l.n l.records

abbrev pub decreases-loop-n : goal.decreases-loop-n
decreases-loop-n l = length l.input - l.cur.place
