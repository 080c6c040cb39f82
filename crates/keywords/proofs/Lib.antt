-- Laws on keyword lines.

pub mod Laws
pub mod Arguments
pub mod Spelling
pub mod Listed
