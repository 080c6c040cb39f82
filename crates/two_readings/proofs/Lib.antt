-- The theorem, from the promise and from what equal tables say.
pub mod Kept
pub mod Alike
