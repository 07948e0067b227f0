-- What the loops of `find::seek` keep.
use Prim.Native.Nat.{◌-◌, ◌≤◌}
use mathlib.Core.Path.{◌≡◌}
use lib.ListN.{length, drop}
use Rattle.find.specs.Find.{sought, find_from}
use Rattle.rows.specs.Rows.{rows_of}
use Rattle.find.proofs.Finding.{pieces}
use Rattle.find.proofs.seek.Given as goal

abbrev pub invariant-loop-name : goal.invariant-loop-name
invariant-loop-name l = (l.at ≤ length l.path) × (sought l.input l.kind l.rows l.count l.path ≡ find_from l.input l.kind (rows_of l.rows l.count) l.parent (pieces (drop l.at l.path)))

abbrev pub decreases-loop-name : goal.decreases-loop-name
decreases-loop-name l = length l.path - l.at
