pub mod Ieee
pub mod Units
pub mod Numbers
