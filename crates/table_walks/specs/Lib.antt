-- What a filled table is.
pub mod Filled
