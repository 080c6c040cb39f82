-- Laws on words at a place of a table, on what a keyword makes of a model's record and what stands under it, on a model's keywords as a fold, and on its first lines alone.
pub mod Laws
pub mod Turns
pub mod Written
pub mod Walks
pub mod Listed
pub mod Fills
pub mod Counted
