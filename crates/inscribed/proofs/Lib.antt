-- Laws that belong to no one function.
pub mod StoreLaws
pub mod MeasureLaws
pub mod TurningLaws
