-- `Ids` has the ids that may be written, `Open` the simulation command that may be ended, `Outcomes` the ways to answer, one law for each.
pub mod Ids
pub mod Open
pub mod Outcomes
