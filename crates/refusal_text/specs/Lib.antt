-- What a person reads of a refused file: where and which fault, the line with a mark at the column, and what to look at.
pub mod Hints
pub mod Places
pub mod Refusals
pub mod Shown
