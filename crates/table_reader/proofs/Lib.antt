-- Laws of a reading into tables of words, and of a listing.
pub mod Fills
pub mod Lists
pub mod Strength
