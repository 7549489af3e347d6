-- Laws that belong to no one function.
pub mod EntryLaws
pub mod EndLaws
pub mod StartLaws
pub mod FitLaws
pub mod LimitLaw
