-- What is asked of a section handed in: the entry tests, then the step.
pub mod Places
pub mod Asked
