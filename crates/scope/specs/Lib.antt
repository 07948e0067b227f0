pub mod Ieee
pub mod Numbers
pub mod Types
pub mod Index
pub mod Limits
