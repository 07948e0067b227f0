-- The numbers of simulation commands: places in the crate's order, from 0; numbers past the last mean the last.
use Rattle.std.specs.Prelude.{ℕ, List, [], ◌∷◌, get_or}
use Rattle.command.specs.declared.SimulationCommand.{SimulationCommand}

abbrev pub sim_order : List SimulationCommand
sim_order = SimulationCommand.Dumpall ∷ SimulationCommand.Dumpoff ∷ SimulationCommand.Dumpon ∷ SimulationCommand.Dumpvars ∷ []

abbrev pub sim_number : SimulationCommand → ℕ
sim_number SimulationCommand.Dumpall = 0
sim_number SimulationCommand.Dumpoff = 1
sim_number SimulationCommand.Dumpon = 2
sim_number SimulationCommand.Dumpvars = 3

unfoldable pub sim_of : ℕ → SimulationCommand
sim_of n = get_or sim_order n SimulationCommand.Dumpvars
