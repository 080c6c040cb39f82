-- What the walks over records make of a page.
pub mod Turns
