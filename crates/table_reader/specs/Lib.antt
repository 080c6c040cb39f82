-- What is promised of a reading into tables of words, and of a listing.
pub mod ReadInWords
pub mod Listed
