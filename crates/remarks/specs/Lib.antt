-- Comments change nothing: the lines of a file that count, two files with the same list of them, and what may be done to a file that keeps it.
pub mod Counted
pub mod Alike
pub mod Edits
pub mod Examples
