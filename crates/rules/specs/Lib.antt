-- Document 01 from "Sections" on, as definitions, in its order and words.
pub mod Types
pub mod Going
pub mod Header
pub mod Component
pub mod Selector
pub mod Model
pub mod Steps
pub mod Outline
pub mod Whole
pub mod Reading
pub mod Same
pub mod Keys
pub mod Last
