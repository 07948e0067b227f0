-- What the loops of `emit::put` keep.
use mathlib.Core.Path.{◌≡◌}
use lib.ListN.{take}
use Rattle.emit.specs.Put.{stored}
use Rattle.emit.proofs.put.Given as goal

abbrev pub invariant-loop-i : goal.invariant-loop-i
invariant-loop-i l = l.out ≡ stored l.initial.out l.at (take l.i l.word)
