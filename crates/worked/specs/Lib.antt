-- The sums done by hand.
pub mod Worked
