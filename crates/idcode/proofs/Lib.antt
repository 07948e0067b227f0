pub mod Laws
pub mod Reading
pub mod Spelling
pub mod Pairing
