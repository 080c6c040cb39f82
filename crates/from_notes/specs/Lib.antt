-- What the notes in a store say of the lent tables.
pub mod Made
pub mod Models
