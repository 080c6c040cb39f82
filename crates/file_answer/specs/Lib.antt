-- What is answered to a file, and what is noted of it.
pub mod Scans
pub mod Rows
pub mod Pins
pub mod Answered
pub mod Sorted
