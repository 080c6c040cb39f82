-- Laws of the store.
pub mod Laws
