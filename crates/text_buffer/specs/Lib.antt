-- What is written where, numbers as texts, lines, and texts in tables.
pub mod Lines
pub mod Numerals
pub mod Parts
pub mod Pages
pub mod Put
