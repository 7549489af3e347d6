-- Camber curves.
pub mod Camber
pub mod Code
