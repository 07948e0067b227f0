pub mod Values
pub mod Vectors
