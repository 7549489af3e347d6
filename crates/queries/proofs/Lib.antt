-- Laws that belong to no one function.
pub mod CrossingLaws
pub mod SameEdge
pub mod OrderLaws
pub mod JoinedLaws
pub mod ClosestLaws
