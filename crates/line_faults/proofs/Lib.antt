-- Laws on the faults of a line.
pub mod Laws
