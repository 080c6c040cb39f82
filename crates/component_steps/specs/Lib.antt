-- The steps of the rules, cut as the code has them.
pub mod Steps
