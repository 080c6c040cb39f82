-- What is promised to C.
pub mod Exported
pub mod Doubles
