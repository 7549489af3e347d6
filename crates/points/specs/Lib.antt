-- binary64 arithmetic in short, points and vectors, and the nearest point of an edge: what each step gives, bit for bit.
pub mod Numbers
pub mod Points
pub mod Closest
