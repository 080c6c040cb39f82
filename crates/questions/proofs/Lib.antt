-- Laws of what is asked.
pub mod Laws
