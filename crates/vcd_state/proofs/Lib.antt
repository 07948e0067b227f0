pub mod Back
pub mod Words
pub mod Taken
