-- Laws that belong to no one function.
pub mod Places
pub mod MovedLaws
pub mod ByteLaws
pub mod TurnLaws
pub mod WordLaws
pub mod ShuffleLaws
pub mod EntryLaws
pub mod LayoutLaws
