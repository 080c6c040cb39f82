-- Laws on near names, cited by the crates above, and a few worked examples.

pub mod Laws
mod Examples
