-- Document 01's bounds, the cells of each record, a line's flaws, how texts and rows lie in records and tables, the two lengths of texts, and model types by number.
pub mod Bounds
pub mod Cells
pub mod Flaws
pub mod Stored
pub mod Texts
pub mod Types
