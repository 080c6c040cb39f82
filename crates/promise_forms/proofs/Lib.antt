-- Each form of promise, and what carries its proof: an equation has one left side.
pub mod Forms
