-- What the proofs cite, what the answers are worth, and examples.
pub mod Tens
pub mod Once
pub mod Scaled
pub mod Halves
pub mod Units
pub mod Close
pub mod Faithful
pub mod Examples
