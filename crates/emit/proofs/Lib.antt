-- `Storing` has words put one after the other, `Framing` one between others, `Pairs` those of a known length.
pub mod Storing
mod Framing
mod Pairs
