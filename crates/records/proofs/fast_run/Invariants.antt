-- What the loops of `records::fast_run` keep.
use Prim.Native.Nat.{◌-◌}
use Rattle.records.proofs.Taken.{Runs}
use Rattle.records.proofs.fast_run.Given as goal

abbrev pub invariant-loop-at : goal.invariant-loop-at
invariant-loop-at l = Runs l.input l.initial.cur l.n l.initial.records l.stop l.cur l.at l.records

abbrev pub decreases-loop-at : goal.decreases-loop-at
decreases-loop-at l = l.stop - l.at
