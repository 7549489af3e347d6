-- Laws that belong to no one function: of points and their numbers, of keeping point by point, of the curve that cleaning makes, and of one handed in as a section.
pub mod Numbers
pub mod HeldLaws
pub mod Made
pub mod Laws
