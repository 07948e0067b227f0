-- `Laying` has a line put from its words, `Printing` the lines one after the other.
mod Laying
mod Printing
