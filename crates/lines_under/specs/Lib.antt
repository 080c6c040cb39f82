-- What the lines and keywords that the code answers say of the texts.
pub mod Under
pub mod Steps
