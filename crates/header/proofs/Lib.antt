mod Levels
mod Table
pub mod Good
pub mod Kept
