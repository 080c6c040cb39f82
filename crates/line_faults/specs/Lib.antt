-- Small definitions for this crate's own functions.
pub mod Places
