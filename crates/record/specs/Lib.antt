pub mod Used
pub mod Record
