-- Words of a line, what a place found in a slice says of them, and how a text is spelled when it is compared.
pub mod Words
pub mod Places
pub mod Spelled
