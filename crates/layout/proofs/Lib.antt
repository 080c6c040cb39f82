-- What the layout must keep.
pub mod Sanity
pub mod Growth
