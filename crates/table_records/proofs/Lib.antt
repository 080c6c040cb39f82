-- Laws of records read back from words.
pub mod Places
pub mod Types
pub mod Whole
pub mod Back
pub mod RecordsBack
pub mod Laid
