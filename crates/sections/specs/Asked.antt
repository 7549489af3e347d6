-- The entry points of a section: each makes the entry tests (1, 2, 3, 4, 6 in number order) and then its step. Assumes nothing.
use Rattle.std.specs.Prelude.{Bool, true, false, not, List, ℕ, ◌/◌, ltb, length, Float, Ok}
use Rattle.std.specs.Float.Ieee.Scale.{finite}
use Rattle.errors.specs.Answer.{Answer, watched, ◌>>=◌}
use Rattle.points.specs.Points.{finite_point}
use Rattle.line2.specs.Lines.{finite_line}
use Rattle.points.specs.declared.Point2.{Point2}
use Rattle.line2.specs.declared.Line2.{Line2}
use Rattle.curve2.specs.Section.{is_closed, whole_length}
use Rattle.curve2.specs.Entry.{section_entry}
use Rattle.curve2.specs.declared.AlsoBad.{AlsoBad}
use Rattle.queries.specs.Crossing.{crossing_on, joined_crossing_of, or_no_crossing}
use Rattle.queries.specs.declared.Crossing.{Crossing}
use Rattle.curve2.specs.Stations.{last_vertex, at_vertex}
use Rattle.curve2.specs.declared.CurveStation2.{CurveStation2}
use Rattle.sections.specs.Places.{at_length, length_along, at_closest}

-- nothing beside the section; a number that isn't finite (2); a place that isn't there (4)
abbrev pub alone : AlsoBad
alone = record { number = false; tolerance = false; finer = false; room = false; state = false }

abbrev pub with_number : Bool → AlsoBad
with_number good = record { number = not good; tolerance = false; finer = false; room = false; state = false }

abbrev pub with_place : Bool → Bool → AlsoBad
with_place good there = record { number = not good; tolerance = false; finer = false; room = not there; state = false }

-- ---- the section itself

unfoldable pub closed_asked : List Float → Float → Answer Bool
closed_asked ns tol = section_entry ns tol alone >>= λ passed. Ok (is_closed ns tol)

unfoldable pub length_asked : List Float → Float → Answer Float
length_asked ns tol = section_entry ns tol alone >>= λ passed. watched (whole_length ns)

-- ---- stations

unfoldable pub front_asked : List Float → Float → Answer CurveStation2
front_asked ns tol = section_entry ns tol alone >>= λ passed. at_vertex ns tol 0

unfoldable pub back_asked : List Float → Float → Answer CurveStation2
back_asked ns tol = section_entry ns tol alone >>= λ passed. at_vertex ns tol (last_vertex ns)

-- a vertex beyond the last is a place that isn't there: 4
unfoldable pub vertex_asked : List Float → Float → ℕ → Answer CurveStation2
vertex_asked ns tol i = section_entry ns tol (with_place true (ltb i (length ns / 2))) >>= λ passed. at_vertex ns tol i

-- a length that isn't finite is 2, one off the curve is 9
unfoldable pub at_length_asked : List Float → Float → Float → Answer CurveStation2
at_length_asked ns tol l = section_entry ns tol (with_number (finite l)) >>= λ passed. at_length ns tol l

-- the length along of the place at a fraction of edge i: a fraction that isn't finite is 2, an edge that isn't there 4
unfoldable pub length_along_asked : List Float → Float → ℕ → Float → Answer Float
length_along_asked ns tol i f = section_entry ns tol (with_place (finite f) (ltb i (last_vertex ns))) >>= λ passed. length_along ns i f

unfoldable pub closest_asked : List Float → Float → Point2 → Answer CurveStation2
closest_asked ns tol p = section_entry ns tol (with_number (finite_point p)) >>= λ passed. at_closest ns p

-- ---- crossings

unfoldable pub crossing_asked : List Float → Float → Line2 → Answer Crossing
crossing_asked ns tol l = section_entry ns tol (with_number (finite_line l)) >>= λ passed. crossing_on ns l

unfoldable pub joined_asked : List Float → Float → Line2 → Answer Crossing
joined_asked ns tol l = section_entry ns tol (with_number (finite_line l)) >>= λ passed. joined_crossing_of ns tol l >>= or_no_crossing
