-- One advance along the camber line: `advance_search`.
pub mod Advance
pub mod Code
