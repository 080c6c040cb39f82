-- What the code's own types say.
pub mod Threes
pub mod Rows
pub mod Headings
pub mod Divisors
