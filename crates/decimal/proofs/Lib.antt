-- The laws that the proofs cite, by what they are about.

pub mod Capped
pub mod Numerals
pub mod Parts
pub mod Fine
pub mod Results
pub mod Settled
pub mod Order
pub mod Cells
pub mod Worded
pub mod Answers
