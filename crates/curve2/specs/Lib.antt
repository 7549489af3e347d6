-- A section: its points and lengths, and the tests that a section handed in goes through.
pub mod Section
pub mod Entry
pub mod Stations
pub mod Lent
