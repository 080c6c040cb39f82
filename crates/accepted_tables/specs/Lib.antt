-- What the tables of every accepted file satisfy.
pub mod Facts
pub mod Fallbacks
