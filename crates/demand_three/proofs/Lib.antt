-- The proof of demand 3.
pub mod Within
pub mod Closing
pub mod Texts
pub mod Walks
pub mod Bytes
pub mod Split
pub mod Sound
pub mod Spared
pub mod Refusal
pub mod Own
pub mod Tables
pub mod Same
pub mod Demand
pub mod Example
