-- Laws that belong to no one function.
pub mod Dyadic
pub mod HalvingLaws
pub mod HalvingSteps
pub mod MadeLaws
