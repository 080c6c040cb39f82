-- What the code's structs say of what is read.
pub mod Views
