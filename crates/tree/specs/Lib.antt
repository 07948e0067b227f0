pub mod Chain
pub mod Place
