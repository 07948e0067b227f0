-- Goals of `vcd_state::open_word` that the search leaves.
use native.Mathlib.Omega.{arith}
use Rattle.text.proofs.Orders.{small}
use Rattle.command.proofs.Numbers.{sim-order}
use Rattle.vcd_state.proofs.open_word.Goals as goal

pub overflow_add-result : goal.overflow_add-result
overflow_add-result c = omega (arith, c.number.ensures, small sim-order c.in-Some.k)

pub returns-in-Some : goal.returns-in-Some
returns-in-Some c = rw (c.in-Some.is, c.number.ensures)
