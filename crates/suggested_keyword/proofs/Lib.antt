-- The laws on suggestions.
pub mod Laws
