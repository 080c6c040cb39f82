-- The proof that every cell that is read is given.
pub mod Given
