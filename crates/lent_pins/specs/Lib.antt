-- A component's pin in a lent table of records.
pub mod Search
