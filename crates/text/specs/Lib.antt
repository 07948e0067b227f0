pub mod Bytes
pub mod Names
pub mod Plain
pub mod Texts
