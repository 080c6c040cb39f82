-- Laws behind the proofs.
pub mod Laws
