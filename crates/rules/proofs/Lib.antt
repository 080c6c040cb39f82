-- Laws of the definitions, cited by the crates above; and small ones that the definitions must keep.
pub mod Going
pub mod Letters
pub mod Lettered
pub mod Numberless
pub mod Keys
pub mod Tables
pub mod Sanity
pub mod Same
pub mod Outcomes
pub mod Went
pub mod Fair
