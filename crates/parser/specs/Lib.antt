pub mod Next
pub mod All
pub mod Refusals
