-- Lines, where a line meets the line of an edge, and surface points: what each step gives, bit for bit.
pub mod Lines
pub mod Intersection
pub mod Rays
