-- What the definitions must keep, and what the code's answers say.
pub mod Sanity
pub mod Places
pub mod Says
pub mod Columns
pub mod Told
pub mod Alike
pub mod Fair
