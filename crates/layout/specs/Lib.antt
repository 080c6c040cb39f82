-- How a file lies in the lent tables.
pub mod Laid
