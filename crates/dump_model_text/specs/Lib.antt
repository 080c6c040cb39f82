-- The dump's lines of a model.
pub mod Models
