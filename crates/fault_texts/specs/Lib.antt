-- Sentences and hints for faults.
pub mod Hints
pub mod Sentences
pub mod Texts
