-- Laws on what was given, cited by the crates above.
pub mod Laws
