-- Cleaning a list of points into a curve, and a section backwards.
pub mod Cleaning
pub mod Code
