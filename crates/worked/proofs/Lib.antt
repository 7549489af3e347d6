-- The sums done by hand hold.
pub mod Rows
