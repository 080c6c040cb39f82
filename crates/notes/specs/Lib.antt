-- What is noted of a file while its lines are read.
pub mod Noted
