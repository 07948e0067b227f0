-- Goals of `emit_var::indexed` that the search leaves.
use mir.Val.{SFits}
use Rattle.scope.specs.declared.ReferenceIndex.{ReferenceIndex}
use mir.Syntax.{w32}
use mir.ValLaws.{to_z-of_z}
use Rattle.emit_var.proofs.Putting.{sized}
use Rattle.emit_var.proofs.Spelling.{spaced-index}
use Rattle.emit_var.proofs.indexed.Goals as goal

pub returns-in-None : goal.returns-in-None
returns-in-None c = rw c.in-None.is c.spell.ensures

pub returns-in-BitSelect : goal.returns-in-BitSelect
returns-in-BitSelect c =
    let f : SFits w32 c.in-BitSelect.n = rw c.in-BitSelect.is at (sized c.args.x c.well_formed.0) in
    rw c.in-BitSelect.is (spaced-index (ReferenceIndex.BitSelect c.in-BitSelect.n) f _ (rw (to_z-of_z w32 c.in-BitSelect.n f) at c.spell-in-BitSelect.ensures) c.spaced.ensures)

pub returns-in-Range : goal.returns-in-Range
returns-in-Range c =
    let f : SFits w32 c.in-Range.msb × SFits w32 c.in-Range.lsb = rw c.in-Range.is at (sized c.args.x c.well_formed.0) in
    rw c.in-Range.is
    (spaced-index (ReferenceIndex.Range c.in-Range.msb c.in-Range.lsb) f _
    (rw (to_z-of_z w32 c.in-Range.msb f.0, to_z-of_z w32 c.in-Range.lsb f.1) at c.spell-in-Range.ensures) c.spaced-in-Range.ensures)
