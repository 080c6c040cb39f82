-- The laws that the proofs cite; `Rows` and `Headings` are for the crates above too.

pub mod Laws
pub mod Rows
pub mod Headings
