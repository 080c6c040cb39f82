-- Lines of a file: what they are, the faults of their bytes, and a line cut at its comment.
pub mod Lines
pub mod Breaks
pub mod Places
