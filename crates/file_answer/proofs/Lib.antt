-- Laws of what is answered.
pub mod ScanLaws
pub mod RowLaws
pub mod PinLaws
pub mod Laws
pub mod UpTo
pub mod SortedLaws
pub mod Accepts
pub mod Made
