-- A cell as a line.
pub mod Lines
