-- Laws that belong to no one function.
pub mod EdgeLaws
pub mod PassLaws
pub mod SeenLaws
