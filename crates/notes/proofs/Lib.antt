-- Laws of what is noted.
pub mod Settles
