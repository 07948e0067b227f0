pub mod Types
pub mod VarNames
pub mod Splitting
pub mod Indexes
pub mod Spelling
