-- What the loops of `lines::put_changes` keep.
use Prim.Native.Nat.{◌-◌}
use mathlib.Core.Path.{◌≡◌}
use lib.ListN.{length}
use Rattle.lines.proofs.Printing.{Going}
use Rattle.lines.proofs.put_changes.Given as goal

abbrev pub invariant-loop-next : goal.invariant-loop-next
invariant-loop-next l =
    Going l.input l.name l.width l.changes l.from l.to l.initial.out l.out l.next l.count × (length l.out ≡ length l.initial.out)

abbrev pub decreases-loop-next : goal.decreases-loop-next
decreases-loop-next l = l.to - l.next
