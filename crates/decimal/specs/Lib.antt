-- The number rules, what the code's parts answer, and bounds that hold of them.
pub mod Decimal
pub mod Fine
pub mod Parts
pub mod Answers
