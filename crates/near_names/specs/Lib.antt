-- How near a text is to a name, and the nearest of a list of names.
pub mod Near
