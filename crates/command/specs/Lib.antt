pub mod Ieee
pub mod Words
pub mod Refusals
pub mod Meaning
pub mod Numbers
