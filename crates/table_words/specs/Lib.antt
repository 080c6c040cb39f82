-- How the answer and the tables lie in words.
pub mod Packed
