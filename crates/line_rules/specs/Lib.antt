-- Document 01 on what stands on a line: names, cells, numbers, rows and slopes; and its lists of names and words.
pub mod Fields
pub mod Tables
