-- What the loops of `value::vector::write_lower` keep.
use mathlib.Core.List.{map}
use Rattle.text.proofs.Rows.{Copied}
use Rattle.value.specs.Values.{lower}
use Rattle.value.proofs.vector.write_lower.Given as goal

abbrev pub invariant-loop-i : goal.invariant-loop-i
invariant-loop-i l = Copied (map lower l.s) l.initial.out l.out l.i
