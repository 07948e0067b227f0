pub mod Ieee
pub mod Numbers
pub mod Values
