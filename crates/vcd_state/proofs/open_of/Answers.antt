-- Goals of `vcd_state::open_of` that the search leaves.
use borrow.Author.Tests.{ne_eqb}
use Rattle.vcd_state.specs.State.{open_of}
use Rattle.vcd_state.proofs.open_of.Goals as goal

pub returns-in-0 : goal.returns-in-0
unfolding open_of
returns-in-0 c = rw c.in-0.is

pub returns-in_default : goal.returns-in_default
unfolding open_of
returns-in_default c = rw (ne_eqb _ _ c.in_default.in_default-own.rest.1, c.from_number.ensures)
