-- Laws on texts, cited by the crates above.
pub mod ChangeLaws
pub mod Laws
pub mod Renumbered
