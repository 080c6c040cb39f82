-- Laws on the steps of a model.
pub mod Laws
