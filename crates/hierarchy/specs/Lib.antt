-- The keywords of the hierarchy, and what is asked of their table.
pub mod Hierarchy
