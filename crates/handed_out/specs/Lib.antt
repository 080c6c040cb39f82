-- Every record that is read is fine.
pub mod FineTables
pub mod HandedOut
