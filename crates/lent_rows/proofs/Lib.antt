mod Filling
pub mod Flat
