pub mod ByKind
pub mod Uses
pub mod Words
pub mod Kept
