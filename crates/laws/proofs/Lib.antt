-- The laws, by what they are about.

pub mod Tests
pub mod Known
pub mod Numbers
pub mod Bytes
pub mod Lists
pub mod Every
pub mod Fronts
pub mod Trims
pub mod Appended
pub mod Same
pub mod Order
pub mod Eights
pub mod Handed
