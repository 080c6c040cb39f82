-- What a reading promises.
pub mod Promise
pub mod Filling
