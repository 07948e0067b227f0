-- Goals of `vcd_state::is_scale` that the search leaves.
use borrow.Author.Tests.{eq-eqb, ne_eqb, lt-ltb, le-ltb}
use Rattle.vcd_state.specs.State.{is_scale}
use Rattle.vcd_state.proofs.is_scale.Goals as goal

pub returns-then-n-eq0 : goal.returns-then-n-eq0
unfolding is_scale
returns-then-n-eq0 c = rw (c.in-0.is, eq-eqb _ _ c.if-n-eq0.true)

pub returns-else-n-eq0 : goal.returns-else-n-eq0
unfolding is_scale
returns-else-n-eq0 c = rw (c.in-0.is, ne_eqb _ _ c.if-n-eq0.false)

pub returns-then-n-lt4294967296 : goal.returns-then-n-lt4294967296
unfolding is_scale
returns-then-n-lt4294967296 c = rw (c.in-1.is, lt-ltb _ _ c.if-n-lt4294967296.true)

pub returns-else-n-lt4294967296 : goal.returns-else-n-lt4294967296
unfolding is_scale
returns-else-n-lt4294967296 c = rw (c.in-1.is, le-ltb _ _ c.if-n-lt4294967296.false)

pub returns-in_default : goal.returns-in_default
unfolding is_scale
returns-in_default c = rw (ne_eqb _ _ c.in_default.in_default-own.rest.0.1, ne_eqb _ _ c.in_default.in_default-own.rest.1)
