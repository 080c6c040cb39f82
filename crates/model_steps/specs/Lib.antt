-- Definitions of this crate's own functions: a row's step, and the tests at a close.
pub mod Rows
pub mod Closes
