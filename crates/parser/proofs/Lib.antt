pub mod Ahead
pub mod All
pub mod Local
pub mod Moved
pub mod Stated
pub mod Ranged
