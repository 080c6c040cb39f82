-- Laws on lines, cited by the crates above too.

pub mod Laws
pub mod Stops
pub mod Places
pub mod Handed
pub mod Numbers
pub mod Counted
pub mod Clean
