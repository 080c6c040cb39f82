-- Laws on what stands on a line, cited by the crates above too.

pub mod LineLaws
pub mod FormLaws
pub mod TableLaws
pub mod TypeLaws
