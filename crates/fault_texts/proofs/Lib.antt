-- Laws of a fault's text.
pub mod Laws
