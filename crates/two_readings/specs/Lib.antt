-- "Kept is all that is read", over the promise of `read`.
pub mod Kept
pub mod Alike
