-- Laws that belong to no one function.
pub mod Rounded
pub mod Fields
pub mod Scaling
pub mod Cases
pub mod Units
pub mod Kept
pub mod Correct
