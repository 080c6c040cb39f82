-- What a summary tells.
pub mod Capacitances
