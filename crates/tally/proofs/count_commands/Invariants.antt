-- What the loops of `tally::count_commands` keep.
use Prim.Native.Nat.{◌+◌, ◌-◌, ◌≤◌}
use mathlib.Core.Path.{◌≡◌}
use lib.ListN.{length}
use Rattle.tally.specs.Count.{counts}
use Rattle.tally.proofs.count_commands.Given as goal

abbrev pub invariant-loop-next : goal.invariant-loop-next
invariant-loop-next l = (l.n ≤ l.cur.place) × (counts (length l.input + 1) l.input l.n l.cur ≡ counts (length l.input + 1) l.input l.initial.n l.initial.cur)

abbrev pub decreases-loop-next : goal.decreases-loop-next
decreases-loop-next l = length l.input - l.cur.place
