-- What the words in the store say of a file.
pub mod Store
