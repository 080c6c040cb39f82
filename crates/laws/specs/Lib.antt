-- The definitions that every crate above shares.
pub mod Bytes
pub mod Eights
pub mod Lists
pub mod Order
pub mod Said
