-- What a person reads of an accepted file: a summary.
pub mod Capacitances
pub mod Summaries
