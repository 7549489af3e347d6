-- Laws that belong to no one function.
pub mod Values
pub mod Plus
pub mod Distances
