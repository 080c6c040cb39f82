-- Blank records.
pub mod Blank
