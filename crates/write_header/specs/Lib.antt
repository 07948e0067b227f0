-- What write_header's contracts cite: the public one `Written`, the private ones `Pour` and `Levels` too.
pub mod Meanings
pub mod Written
pub mod Pour
pub mod Levels
