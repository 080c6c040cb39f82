-- Laws on words, cited by the crates above too.

pub mod Scans
pub mod ByPlaces
pub mod Laws
pub mod Chains
