-- The laws on the table, and on a name's place in it.
pub mod Table
pub mod Places
