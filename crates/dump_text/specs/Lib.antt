-- The dump, line by line.
pub mod Components
pub mod Labelled
