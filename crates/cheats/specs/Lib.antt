-- Document 01's five cheating readers, and the files on which they are caught.
pub mod Files
pub mod Cheats
