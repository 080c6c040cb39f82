-- Laws of words that are written one after the other.
pub mod Laws
pub mod Models
