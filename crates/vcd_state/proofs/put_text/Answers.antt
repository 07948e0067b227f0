-- Goals of `vcd_state::put_text` that the search leaves.
use Rattle.vcd_state.proofs.put_text.Goals as goal

pub returns-in-None : goal.returns-in-None
returns-in-None c = rw c.in-None.is c.put_three.ensures

pub returns-in-Some : goal.returns-in-Some
returns-in-Some c = rw c.in-Some.is c.put_three-in-Some.ensures
