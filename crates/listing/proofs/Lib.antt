pub mod Listed
pub mod Passing
pub mod Complete
