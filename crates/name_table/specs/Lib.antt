-- A name looked up in a table of names.
pub mod Names
pub mod Places
pub mod Listed
