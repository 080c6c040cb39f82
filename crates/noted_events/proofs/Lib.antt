-- Laws of what is noted.
pub mod PartLaws
pub mod EventLaws
