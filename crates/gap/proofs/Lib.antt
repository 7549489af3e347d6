-- Laws that belong to no one function.
pub mod RoundLaws
pub mod RoundsLaws
