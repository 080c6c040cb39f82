-- What the definition must keep.
pub mod Sanity
