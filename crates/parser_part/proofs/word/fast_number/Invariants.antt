-- What the loops of `parser_part::word::fast_number` keep.
use Rattle.std.proofs.Common.{◌+◌, ◌-◌, ◌≤◌, length}
use Rattle.parser_part.proofs.FastWords.{DigitsTo}
use Rattle.parser_part.proofs.word.fast_number.Given as goal

abbrev pub invariant-loop-i : goal.invariant-loop-i
invariant-loop-i l = (l.stop ≤ length l.input) × (l.stop ≤ l.at + 18) × DigitsTo l.input l.at l.i l.v

abbrev pub decreases-loop-i : goal.decreases-loop-i
decreases-loop-i l = length l.input - l.i
