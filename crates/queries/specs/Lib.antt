-- Where a line crosses a section, and which of its points is nearest to a point.
pub mod Hits
pub mod Crossing
pub mod Nearest
pub mod Code
