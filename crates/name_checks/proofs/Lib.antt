-- Laws of what is looked up.
pub mod NoteLaws
pub mod SeenLaws
pub mod ClashLaws
pub mod TargetLaws
pub mod ListingLaws
pub mod MarkLaws
