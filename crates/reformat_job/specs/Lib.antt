-- `Reformat` has all that is printed for an input, `Turns` what one turn prints and leaves, and what all turns print.
pub mod Reformat
pub mod Turns
