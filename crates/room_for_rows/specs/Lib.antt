-- How many rows a file has room for.
pub mod Rows
