-- "Kept is all that is read": equal tables say the same.
pub mod Kept
