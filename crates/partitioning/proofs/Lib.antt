-- Laws that belong to no one function.
pub mod TurnLaws
pub mod LegLaws
pub mod WalkLaws
pub mod GivenLaws
pub mod Rounding
pub mod Floats
pub mod SpotLaws
pub mod EndsLaws
pub mod StretchLaws
pub mod PieceLaws
pub mod Laws
