-- Each cheat is refuted on a file, and so no reader that keeps the promise is one.
pub mod Computed
pub mod Caught
pub mod Shut
