-- `check_curvature_upper`: the side of its chord on which more samples of the camber lie is the upper side. Assumes nothing.
use Rattle.std.specs.Prelude.{Bool, not, cond, List, [], ◌∷◌, ℕ, zero, suc, ◌-◌, eqb, pos, Float, Ok, Err}
use Rattle.std.specs.Float.Ieee.{of_int}
use Rattle.std.specs.Float.{binary64}
use Rattle.errors.specs.Answer.{Answer, watched, ◌>>=◌}
use Rattle.errors.specs.Numbers.{is_plus}
use Rattle.points.specs.Numbers.{◌*f◌, ◌/f◌}
use Rattle.points.specs.declared.Point2.{Point2}
use Rattle.line2.specs.Lines.{line_through, signed_distance}
use Rattle.line2.specs.Rays.{ray_projection}
use Rattle.line2.specs.declared.Line2.{Line2}
use Rattle.curve2.specs.Section.{is_closed, whole_length}
use Rattle.curve2.specs.Stations.{vertex, last_vertex, surface_of}
use Rattle.sections.specs.Places.{at_length, at_closest}
use Rattle.inscribed.specs.Circles.{center, contact1}
use Rattle.inscribed.specs.declared.Inscribed.{Inscribed}
use Rattle.errors.specs.declared.Refusal.TheVariants.{ZeroLength}
use Rattle.orient.specs.Votes.{majority}
use Rattle.orient.specs.Camber.{Camber}

-- ---- the samples of the camber

-- "its fifty samples", and the number of the last
abbrev pub sample_count : ℕ
sample_count = 50

abbrev pub last_sample : ℕ
last_sample = sample_count - 1

-- "length × i / 49, product first"
unfoldable pub sample_length : Float → ℕ → Answer Float
sample_length whole i = watched (whole *f of_int binary64 (pos i) /f of_int binary64 (pos last_sample))

-- "sample i of 1 to 48 comes from `at_length` .., its refusals too"
unfoldable pub sample_inside : Camber → Float → ℕ → Answer Point2
sample_inside camber whole i =
    sample_length whole i >>= λ along.
    at_length camber.numbers camber.tolerance along >>= λ station.
    Ok station.point

-- the ends of a curve by its numbers
abbrev pub front_of : List Float → Point2
front_of ns = vertex ns 0

abbrev pub back_of : List Float → Point2
back_of ns = vertex ns (last_vertex ns)

-- "the first and last are the camber's ends"
unfoldable pub sample_at : Camber → Float → ℕ → Answer Point2
sample_at camber whole i =
    cond (eqb i 0) (Ok (front_of camber.numbers))
    (cond (eqb i last_sample) (Ok (back_of camber.numbers))
    (sample_inside camber whole i))

-- n samples from sample i on
unfoldable pub samples_from : Camber → Float → ℕ → ℕ → Answer (List Point2)
unfolding sample_at
samples_from camber whole i zero = Ok []
samples_from camber whole i (suc n) = sample_at camber whole i >>= λ p. samples_from camber whole (suc i) n >>= λ ps. Ok (p ∷ ps)

-- "all fifty are used, none dropped"; "a camber whose ends lie within its tolerance of each other gives 11"
unfoldable pub samples_of : Camber → Answer (List Point2)
samples_of camber =
    cond (is_closed camber.numbers camber.tolerance) (Err ZeroLength)
    (watched (whole_length camber.numbers) >>= λ whole. samples_from camber whole 0 sample_count)

-- ---- the upper side

-- to the right of a line: the sign bit of `signed_distance_to` is clear
unfoldable pub is_right : Line2 → Point2 → Answer Bool
is_right line p = signed_distance line p >>= λ d. Ok (is_plus d)

-- the chord goes from the first sample to the last, the camber's ends
unfoldable pub right_of_chord : List Float → List Point2 → Answer Bool
right_of_chord ns points = line_through (front_of ns) (back_of ns) >>= λ chord. majority (is_right chord) points

-- "The side which more points fall onto is the direction of the upper side"
unfoldable pub upper_to_right : Camber → Answer Bool
upper_to_right camber = samples_of camber >>= λ points. right_of_chord camber.numbers points

-- ---- the votes

-- "If we are expecting the upper side to be on the right, the `p1` point should have a positive signed distance to the surface point of the camber line. Otherwise, it
-- should be negative.": a circle votes for swapping where it has not, by the sign bit
unfoldable pub side_vote : List Float → Bool → Inscribed → Answer Bool
side_vote ns right c =
    at_closest ns (center c) >>= λ station.
    ray_projection (surface_of station) (contact1 c) >>= λ d.
    Ok (cond right (not (is_plus d)) (is_plus d))

unfoldable pub curvature_on : List Inscribed → Camber → Answer Bool
curvature_on cs camber = upper_to_right camber >>= λ right. majority (side_vote camber.numbers right) cs
