-- The proof that every record that is read is fine.
pub mod Parts
pub mod Texts
pub mod Cells
pub mod Records
pub mod Fine
pub mod Out
