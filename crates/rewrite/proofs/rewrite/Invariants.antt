-- What the loops of `rewrite::rewrite` keep.
use Prim.Native.Nat.{◌-◌}
use lib.ListN.{length}
use Rattle.rewrite.proofs.Turn.{Writes}
use Rattle.rewrite.proofs.rewrite.Given as goal

abbrev pub invariant-loop-end : goal.invariant-loop-end
invariant-loop-end l = Writes l.input l.initial.out l.initial.cur l.initial.state l.out l.used l.state l.cur

abbrev pub decreases-loop-end : goal.decreases-loop-end
decreases-loop-end l = length l.input - l.cur.place
