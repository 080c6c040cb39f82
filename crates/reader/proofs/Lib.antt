-- Laws of the promise.
pub mod Tables
pub mod Making
pub mod Laws
pub mod Strength
pub mod Answered
