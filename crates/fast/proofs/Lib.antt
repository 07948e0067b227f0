pub mod Hits
pub mod Short
