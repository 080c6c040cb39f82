-- The tables of the example.
pub mod Lent
