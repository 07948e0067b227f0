-- Laws of the numbers of simulation commands.
use Prim.Native.Nat.{ℕ, ◌<◌}
use mathlib.Core.Path.{◌≡◌, refl}
use mathlib.Core.Bool.{true}
use native.Mathlib.Omega.{arith}
use borrow.Author.Tests.{le-leb}
use lib.Dec.{leb}
use lib.ListN.{get_or}
use Rattle.text.proofs.Orders.{Order, kept, small}
use Rattle.command.specs.Numbers.{sim_order, sim_number, sim_of}
use Rattle.command.specs.declared.SimulationCommand.{SimulationCommand}

each : (k : SimulationCommand) → get_or sim_order (sim_number k) SimulationCommand.Dumpvars ≡ k
each SimulationCommand.Dumpall = refl
each SimulationCommand.Dumpoff = refl
each SimulationCommand.Dumpon = refl
each SimulationCommand.Dumpvars = refl

pub sim-order : Order sim_order SimulationCommand.Dumpvars sim_number
sim-order = record { back = each; each = (refl, (refl, (refl, (refl, tt)))); whole = refl }

-- ---- a command's number is a place of the order and means that command; a place of the order is the number of the command that it means
pub sim-back : (k : SimulationCommand) → (leb (sim_number k) 3 ≡ true) × (sim_of (sim_number k) ≡ k)
unfolding sim_of
sim-back k = (le-leb (sim_number k) 3 (omega (arith, small sim-order k)), sim-order.back k)

pub sim-kept : (n : ℕ) → n < 4 → sim_number (sim_of n) ≡ n
unfolding sim_of
sim-kept n h = kept sim-order n h
