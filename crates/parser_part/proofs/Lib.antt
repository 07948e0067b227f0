pub mod Parts
pub mod Kept
pub mod Hits
pub mod FastWords
