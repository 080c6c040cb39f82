-- Laws of a search, and the search as the walks have it.
pub mod Laws
pub mod Records
