-- Whether the word at fault is one too many.
pub mod Surplus
