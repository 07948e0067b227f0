-- `Turn` has commands rewritten from one cursor to the next, `Usual` those that hit the fast path, `Taken` all of them in closed form.
pub mod Turn
pub mod Usual
pub mod Taken
