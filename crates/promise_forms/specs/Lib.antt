-- When a promise leaves one result.
pub mod One
