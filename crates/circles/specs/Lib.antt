-- What is asked of a section with a general tolerance: one circle, or the trial between two.
pub mod Trial
pub mod Asked
