pub mod Definitions
pub mod Indexes
pub mod Places
