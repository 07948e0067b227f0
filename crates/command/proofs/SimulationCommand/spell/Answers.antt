-- Goals of `command::SimulationCommand::spell` that the search leaves.
use Rattle.command.proofs.SimulationCommand.spell.Goals as goal

pub returns-in-Dumpall : goal.returns-in-Dumpall
returns-in-Dumpall c = rw c.in-Dumpall.is c.spell.ensures

pub returns-in-Dumpoff : goal.returns-in-Dumpoff
returns-in-Dumpoff c = rw c.in-Dumpoff.is c.spell-in-Dumpoff.ensures

pub returns-in-Dumpon : goal.returns-in-Dumpon
returns-in-Dumpon c = rw c.in-Dumpon.is c.spell-in-Dumpon.ensures

pub returns-in-Dumpvars : goal.returns-in-Dumpvars
returns-in-Dumpvars c = rw c.in-Dumpvars.is c.spell-in-Dumpvars.ensures
