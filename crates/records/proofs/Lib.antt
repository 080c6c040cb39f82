-- Laws of the code, and what the definitions must keep.
pub mod Columns
pub mod Sanity
