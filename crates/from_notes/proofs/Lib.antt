-- Laws of the records by notes: what words name, cursors by words, that no record holds a line's number, the sections noted, and the models made one after the other.
pub mod Words
pub mod Marks
pub mod Numberless
pub mod Sections
pub mod Joined
pub mod Steps
