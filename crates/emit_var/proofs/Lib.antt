-- `Spelling` has short texts by value, `Putting` texts put one after the other.
pub mod Spelling
pub mod Putting
