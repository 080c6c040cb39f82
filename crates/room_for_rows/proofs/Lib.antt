-- That no file runs short of rows.
pub mod Words
pub mod Lines
pub mod Read
pub mod Laid
pub mod Examples
