-- Which numbers faults have.
pub mod Numbers
