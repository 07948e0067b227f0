-- What the loops of `white_space::kept` keep.
use Rattle.white_space.proofs.Trimming.{Cut}
use Rattle.white_space.proofs.kept.Given as goal

abbrev pub invariant-loop-j : goal.invariant-loop-j
invariant-loop-j l = Cut l.s l.j

abbrev pub decreases-loop-j : goal.decreases-loop-j
decreases-loop-j l = l.j
