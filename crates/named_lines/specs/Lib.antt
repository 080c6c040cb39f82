-- What the answers of the code say of a line.
pub mod Places
pub mod Views
