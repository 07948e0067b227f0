pub mod Header
pub mod Level
