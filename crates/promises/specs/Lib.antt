pub mod Runs
pub mod Listed
pub mod Standard
pub mod Stated
