-- What is asked of an element of a lent table, what a filled table holds, and what the loops over tables say of their turns.
pub mod Elem
pub mod Filled
pub mod Put
pub mod Get
pub mod Looks
pub mod Scan
pub mod Makes
pub mod Read
