-- Document 01's bench examples, and how they are computed.
pub mod Computing
pub mod Starred
pub mod Columns
