-- Laws that belong to no one function.
pub mod LengthLaws
pub mod RisingLaws
