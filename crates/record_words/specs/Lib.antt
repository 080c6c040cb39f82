-- How values and records lie in words.
pub mod Values
pub mod Records
