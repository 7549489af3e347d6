-- The march along the camber line, `extract_half_circles`, and the extraction by two of them; the state that a spent march hands out, going on from it, and its law; the law of a march's circles offered again; and that of the edges that a march tells.
pub mod Paused
pub mod March
pub mod Extraction
pub mod Going
pub mod PauseLaw
pub mod Again
pub mod EdgesLaw
pub mod Code
