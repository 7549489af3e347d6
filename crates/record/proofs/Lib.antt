-- Laws that belong to no one function.
pub mod Words
pub mod Placed
pub mod Lengths
pub mod Loops
pub mod Circles
pub mod Entries
pub mod Written
pub mod Read
pub mod RoundTrips
