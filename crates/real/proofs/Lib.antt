pub mod Reals
