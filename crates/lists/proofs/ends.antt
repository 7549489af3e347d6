-- The last two circles of a store.
pub mod Laws
