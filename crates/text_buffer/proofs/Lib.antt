-- Laws of what is written, of numbers as texts, and of texts in tables.
pub mod HexadecimalLaws
pub mod Laws
pub mod NumeralLaws
pub mod PartLaws
