-- What the loops of `emit::put_lower` keep.
use mathlib.Core.Path.{◌≡◌}
use mathlib.Core.List.{map}
use lib.ListN.{take}
use Rattle.value.specs.Values.{lower}
use Rattle.emit.specs.Put.{stored}
use Rattle.emit.proofs.put_lower.Given as goal

abbrev pub invariant-loop-i : goal.invariant-loop-i
invariant-loop-i l = l.out ≡ stored l.initial.out l.at (take l.i (map lower l.word))
