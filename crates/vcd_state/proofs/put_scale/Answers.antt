-- Goals of `vcd_state::put_scale` that the search leaves.
use Rattle.vcd_state.proofs.put_scale.Goals as goal

pub returns-in-None : goal.returns-in-None
returns-in-None c = rw c.in-None.is c.put_three.ensures

pub returns-in-Some : goal.returns-in-Some
returns-in-Some c = rw (c.in-Some.is, ← c.number.ensures) c.put_three-in-Some.ensures
