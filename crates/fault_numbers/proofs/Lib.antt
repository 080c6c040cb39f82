-- That no fault has another number.
pub mod Flaws
pub mod Going
pub mod Steps
pub mod Texts
pub mod Whole
pub mod Loading
