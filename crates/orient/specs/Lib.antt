-- Orientation: what each case decides, and what the store is afterwards.
pub mod Votes
pub mod Camber
pub mod Curvature
pub mod Orientation
