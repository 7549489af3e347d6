-- The gap of an open section, and where the camber line meets it.
pub mod Gap
pub mod Probe
pub mod Rounds
pub mod Code
