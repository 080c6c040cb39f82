-- What was given so far.
pub mod Given
