-- Stored numbers sorted by byte place, and back.
pub mod Shuffle
pub mod Words
pub mod Code
pub mod Law
