-- Every cell that is read is given.
pub mod Given
