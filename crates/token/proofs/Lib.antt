pub mod Reading
pub mod Texts
pub mod Tokens
pub mod Words
