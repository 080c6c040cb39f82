-- Laws behind the proofs.
pub mod HintLaws
pub mod Laws
pub mod TextLaws
