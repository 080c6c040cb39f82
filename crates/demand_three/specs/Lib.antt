-- Demand 3: the lines of a model section, files in which they stand, and what such files have in common.
pub mod Lines
pub mod Demand
pub mod Own
