-- The proof that equal tables say the same.
pub mod Rows
pub mod Sections
pub mod Stored
pub mod Kept
pub mod Example
