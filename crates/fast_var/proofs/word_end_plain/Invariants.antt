-- What the loops of `fast_var::word_end_plain` keep.
use Rattle.std.proofs.Common.{ℕ, ◌-◌, List, length}
use Rattle.fast_var.proofs.Places.{Stands}
use Rattle.fast_var.proofs.word_end_plain.Given as goal

abbrev pub invariant-loop-i : goal.invariant-loop-i
invariant-loop-i l = (w : List ℕ) × Stands l.input l.at l.i w

abbrev pub decreases-loop-i : goal.decreases-loop-i
decreases-loop-i l = length l.input - l.i
