-- Laws of the promise to C.
pub mod Strength
