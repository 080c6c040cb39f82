-- What is noted of a line, as the code answers it.
pub mod Places
pub mod Events
