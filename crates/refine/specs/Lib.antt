-- Refinement: `refine_and_push` as a run counted in units.
pub mod Machine
pub mod Report
pub mod Code
pub mod Refinement
pub mod Offers
pub mod Again
pub mod Law
pub mod Thinning
pub mod ThinLaw
