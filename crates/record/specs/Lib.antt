-- The hand-over record of a list of circles, written and read.
pub mod Record
pub mod Code
pub mod Law
