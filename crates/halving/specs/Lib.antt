-- The circle of a crossing, by halving.
pub mod Halving
pub mod SourceLoop
