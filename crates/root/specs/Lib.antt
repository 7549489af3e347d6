-- The square root of a binary64 value: what it is, and that it is the nearest value.
pub mod Sqrt
pub mod Nearest
pub mod Code
