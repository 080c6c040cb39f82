-- A file as the list of its texts: the lines left after cutting, with their numbers.
pub mod Change
pub mod InForce
pub mod Texts
pub mod Cursors
