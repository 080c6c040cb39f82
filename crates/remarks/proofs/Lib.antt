-- That comments change nothing.
pub mod Changes
pub mod Texts
pub mod Lines
pub mod Worth
pub mod Alike
pub mod Remarks
pub mod Edits
pub mod Ends
pub mod Examples
