-- What the loops of `header::read_header` keep.
use Prim.Native.Nat.{◌-◌, ◌*◌, ◌≤◌}
use mathlib.Core.Path.{◌≡◌}
use mathlib.Core.List.{[]}
use lib.ListN.{length}
use Rattle.header.specs.Header.{header_of}
use Rattle.header.specs.Level.{after, rest}
use Rattle.header.proofs.read_header.Given as goal

abbrev pub invariant-loop-d : goal.invariant-loop-d
invariant-loop-d l = (l.cap ≤ 4096) × (10 * l.cap ≤ length l.initial.rows) × (l.n ≤ l.cap) × (length l.rows ≡ length l.initial.rows) × (after l.initial.rows 0 (header_of l.input l.initial.cur l.initial.rows) ≡ after l.rows l.n (rest l.input l.cap l.cur [] l.n l.header))

abbrev pub decreases-loop-d : goal.decreases-loop-d
decreases-loop-d l = length l.input - l.cur.place
