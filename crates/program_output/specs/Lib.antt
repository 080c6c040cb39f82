-- Where the programs keep a file, where a section's record lies, and what is put for one record after another.
pub mod Kept
pub mod Sections
pub mod Tables
pub mod Walks
