-- Goals of `vcd_state::is_kept` that the search leaves.
use borrow.Author.Tests.{eq-eqb, ne_eqb}
use Rattle.vcd_state.specs.State.{is_kept}
use Rattle.vcd_state.proofs.is_kept.Goals as goal

pub returns-then-s-eq0 : goal.returns-then-s-eq0
unfolding is_kept
returns-then-s-eq0 c = rw (c.in-0.is, eq-eqb _ _ c.if-s-eq0.true)

pub returns-else-s-eq0 : goal.returns-else-s-eq0
unfolding is_kept
returns-else-s-eq0 c = rw (c.in-0.is, ne_eqb _ _ c.if-s-eq0.false)

pub returns-in-1 : goal.returns-in-1
unfolding is_kept
returns-in-1 c = rw c.in-1.is

pub returns-in_default : goal.returns-in_default
unfolding is_kept
returns-in_default c = rw (ne_eqb _ _ c.in_default.in_default-own.rest.0.1, ne_eqb _ _ c.in_default.in_default-own.rest.1)
