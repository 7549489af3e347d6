-- Laws that belong to no one function.
pub mod Exact
pub mod Asked
