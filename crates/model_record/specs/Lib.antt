-- A model's record as the code makes it: its first lines, its ramp, and its keywords one after another.
pub mod Firsts
pub mod Ramps
pub mod Bodies
pub mod Takes
