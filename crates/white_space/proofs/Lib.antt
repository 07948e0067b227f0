pub mod Blank
pub mod Trimming
