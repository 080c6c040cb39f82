-- The records of the tables, for the walks.
pub mod Tables
