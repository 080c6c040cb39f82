-- Laws on what stands under a keyword, cited by the crates above.
pub mod Laws
pub mod Folds
pub mod Keyed
pub mod Told
