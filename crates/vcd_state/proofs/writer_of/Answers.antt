-- Goals of `vcd_state::writer_of` that the search leaves.
use borrow.Author.Tests.{eq-eqb, ne_eqb, le-leb, lt-leb}
use Rattle.vcd_state.specs.State.{writer_of}
use Rattle.vcd_state.proofs.writer_of.Goals as goal

pub returns-then-w-ne-WRITER : goal.returns-then-w-ne-WRITER
unfolding writer_of
returns-then-w-ne-WRITER c = rw (ne_eqb _ _ c.if-w-ne-WRITER.true)

pub returns-then-w-gt4 : goal.returns-then-w-gt4
unfolding writer_of
returns-then-w-gt4 c = rw (eq-eqb _ _ c.if-w-ne-WRITER.false, lt-leb _ _ c.if-w-gt4.true)

pub returns : goal.returns
unfolding writer_of
returns c = rw (c.open_of.ensures, eq-eqb _ _ c.if-w-ne-WRITER.false, le-leb _ _ c.if-w-gt4.false)
