-- `Rows` has what a row of a table does where some scopes are open, `Places` what 25 asks of rows, `Poured` commands
-- written one after the other, `Items` rows, `Calls` the whole header, `Takes` what its call amounts to.
pub mod Rows
pub mod Places
pub mod Poured
pub mod Items
pub mod Calls
pub mod Takes
