-- What the loops of `parser_part::word::fast_long_id` keep.
use Rattle.std.proofs.Common.{◌-◌, length}
use Rattle.parser_part.proofs.FastWords.{IdTo}
use Rattle.parser_part.proofs.word.fast_long_id.Given as goal

abbrev pub invariant-loop-i : goal.invariant-loop-i
invariant-loop-i l = IdTo l.input l.at l.i l.sum l.power

abbrev pub decreases-loop-i : goal.decreases-loop-i
decreases-loop-i l = length l.input - l.i
