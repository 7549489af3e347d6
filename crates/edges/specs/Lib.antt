-- Open edges: whether a section is open at an end, and the fit.
pub mod Edges
