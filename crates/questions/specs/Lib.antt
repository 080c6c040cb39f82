-- What users ask of filled tables in words.
pub mod Named
pub mod Searched
pub mod Chosen
pub mod Valued
