-- Laws on tables of names, cited by the crates above.

pub mod Laws
