-- `Reading` has what holds of all commands, `Joining` the turns over them, `Heading` the header's turn, `Turning` all turns, `Calls` the
-- arms of a turn's code.
pub mod Reading
pub mod Joining
pub mod Heading
pub mod Turning
mod Calls
