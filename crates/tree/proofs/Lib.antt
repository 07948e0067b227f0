-- `Rows` has the rows of a table from one on and their parents, `Chains` the open scopes as a chain of parents in the table, `Places`
-- the rows with a text outside.
pub mod Rows
pub mod Chains
pub mod Places
