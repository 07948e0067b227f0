-- What the loop of `write_scope` keeps, and why the calls end: a scope calls an item at its own levels, and an item a scope at one level less.
use Prim.Native.Nat.{◌+◌, ◌-◌, ◌*◌, ◌≤◌}
use mathlib.Core.Path.{◌≡◌}
use lib.ListN.{length}
use Rattle.write_header.specs.Levels.{Goes}
use Rattle.write_header.proofs.+write_item_write_scope.Given as goal

abbrev pub invariant-write_scope-loop-i : goal.invariant-write_scope-loop-i
invariant-write_scope-loop-i l =
    (l.from ≤ l.i) × (l.i ≤ l.n) × (l.place ≤ length l.out) × (length l.out ≡ length l.initial.out)
    × Goes l.src l.rows l.n l.levels l.me l.from l.initial.out l.at l.initial.v l.i l.out l.place l.v

abbrev pub decreases-write_scope-loop-i : goal.decreases-write_scope-loop-i
decreases-write_scope-loop-i l = l.n - l.i

abbrev pub decreases-write_item : goal.decreases-write_item
decreases-write_item l = 2 * l.levels

abbrev pub decreases-write_scope : goal.decreases-write_scope
decreases-write_scope l = 2 * l.levels + 1
