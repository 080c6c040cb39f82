-- Keyword lines: their form, and the keywords that are carried.
pub mod Form
pub mod Carried
pub mod Answers
