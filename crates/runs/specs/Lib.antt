-- Runs counted in units.
pub mod Run
