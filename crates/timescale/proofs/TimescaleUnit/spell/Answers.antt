-- Goals of `timescale::TimescaleUnit::spell` that the search leaves.
use Rattle.timescale.proofs.TimescaleUnit.spell.Goals as goal

pub returns-in-S : goal.returns-in-S
returns-in-S c = rw c.in-S.is c.spell.ensures

pub returns-in-MS : goal.returns-in-MS
returns-in-MS c = rw c.in-MS.is c.spell-in-MS.ensures

pub returns-in-US : goal.returns-in-US
returns-in-US c = rw c.in-US.is c.spell-in-US.ensures

pub returns-in-NS : goal.returns-in-NS
returns-in-NS c = rw c.in-NS.is c.spell-in-NS.ensures

pub returns-in-PS : goal.returns-in-PS
returns-in-PS c = rw c.in-PS.is c.spell-in-PS.ensures

pub returns-in-FS : goal.returns-in-FS
returns-in-FS c = rw c.in-FS.is c.spell-in-FS.ensures
