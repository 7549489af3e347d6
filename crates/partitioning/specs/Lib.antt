-- Stretches cut out of a section: the walk between two stations, and the pieces that it makes.
pub mod Walk
pub mod Pieces
pub mod Code
