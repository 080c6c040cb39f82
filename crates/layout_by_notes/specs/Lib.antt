-- What is noted of an accepted file, as it lies in the lent tables.
pub mod Lies
