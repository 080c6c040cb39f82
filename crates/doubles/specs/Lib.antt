-- A cell as a double, and how near that is to the exact value.
pub mod Double
pub mod Faithful
