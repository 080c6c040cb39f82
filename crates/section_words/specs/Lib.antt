-- A model as words: what each keyword says of it, what stands under each, and behind the model's keyword line; and with its first lines alone.
pub mod Parts
pub mod Models
pub mod Listed
