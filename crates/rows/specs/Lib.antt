pub mod Rows
pub mod Good
pub mod Peek
