pub mod Read
pub mod Flat
