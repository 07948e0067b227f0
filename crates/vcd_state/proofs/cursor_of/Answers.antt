-- Goals of `vcd_state::cursor_of` that the search leaves.
use borrow.Author.Tests.{eq-eqb, ne_eqb, le-leb, lt-leb}
use Rattle.vcd_state.specs.State.{cursor_of}
use Rattle.vcd_state.proofs.cursor_of.Goals as goal

pub returns-then-w-ne-CURSOR : goal.returns-then-w-ne-CURSOR
unfolding cursor_of
returns-then-w-ne-CURSOR c = rw (ne_eqb _ _ c.if-w-ne-CURSOR.true)

pub returns-then-w-gt1 : goal.returns-then-w-gt1
unfolding cursor_of
returns-then-w-gt1 c = rw (eq-eqb _ _ c.if-w-ne-CURSOR.false, lt-leb _ _ c.if-w-gt1.true)

pub returns-then-w-gt4 : goal.returns-then-w-gt4
unfolding cursor_of
returns-then-w-gt4 c = rw (eq-eqb _ _ c.if-w-ne-CURSOR.false, le-leb _ _ c.if-w-gt1.false, lt-leb _ _ c.if-w-gt4.true)

pub returns : goal.returns
unfolding cursor_of
returns c = rw (c.open_of.ensures, eq-eqb _ _ c.if-w-ne-CURSOR.false, le-leb _ _ c.if-w-gt1.false, le-leb _ _ c.if-w-gt4.false)
