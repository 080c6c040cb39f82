-- Records read back from the words of a table.
pub mod Values
pub mod Records
pub mod Fine
