-- What the loop of `header::parse_scope` keeps, and why the calls end.
use Prim.Native.Nat.{◌-◌}
use mathlib.Core.Path.{◌≡◌}
use lib.ListN.{length}
use Rattle.header.proofs.Levels.{Reached}
use Rattle.header.proofs.+parse_scope.Given as goal

abbrev pub invariant-loop-d : goal.invariant-loop-d
invariant-loop-d l =
    (length l.rows ≡ length l.initial.rows) × Reached l.input l.cap l.parent l.levels l.initial.cur l.initial.rows l.made l.cur l.rows l.n

abbrev pub decreases-loop-d : goal.decreases-loop-d
decreases-loop-d l = length l.input - l.cur.place

-- fewer levels are left for each scope within
abbrev pub decreases-parse_scope : goal.decreases-parse_scope
decreases-parse_scope l = l.levels
