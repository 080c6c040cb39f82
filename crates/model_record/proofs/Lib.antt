-- Laws on a model's first lines, on its ramp, and on its keywords.
pub mod FirstLaws
pub mod RampLaws
pub mod BodyLaws
pub mod Takes
pub mod Fold
pub mod Walks
