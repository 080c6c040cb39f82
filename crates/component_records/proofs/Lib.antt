-- Laws on the records, cited by the crates above.
pub mod Kept
pub mod Words
pub mod Lines
pub mod Keys
