-- Inscribed circles: the circle, and the store that holds its numbers.
pub mod Circles
pub mod Store
pub mod Lists
pub mod Code
pub mod Changes
