-- What the loops of `find::first_named` keep.
use mathlib.Core.Path.{◌≡◌}
use Rattle.find.specs.Find.{first_named}
use Rattle.rows.specs.Rows.{rows_of}
use Rattle.find.proofs.Finding.{from}
use Rattle.find.proofs.first_named.Given as goal

abbrev pub invariant-loop-i : goal.invariant-loop-i
invariant-loop-i l = first_named l.input l.kind l.parent l.name 0 (rows_of l.rows l.count) ≡ from l.input l.kind l.parent l.name l.rows l.count l.i
