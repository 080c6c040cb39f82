-- The keyword that a person may have meant.
pub mod Suggestion
