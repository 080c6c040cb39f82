-- A reading with its lines numbered anew.
pub mod Stages
pub mod Header
pub mod Component
pub mod Model
pub mod Steps
pub mod Told
pub mod Outcomes
pub mod Tables
