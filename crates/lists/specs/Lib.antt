-- The list helpers of inscribed.rs, over the circles in use of a store, and the thickest of a slice of records.
pub mod Ends
pub mod Asked
