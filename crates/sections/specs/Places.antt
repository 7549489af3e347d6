-- Places on a section: `at_length`, a station's `length_along` and `at_closest_to_point`. Assumes nothing.
use Rattle.std.specs.Prelude.{◌||◌, cond, List, [], ◌∷◌, ℕ, suc, ◌+◌, get_or, Float, Ok, Err}
use Rattle.std.specs.Float.{nan}
use Rattle.std.specs.Float.Ieee.{lt, eq}
use Rattle.errors.specs.Answer.{Answer, watched, ◌>>=◌}
use Rattle.points.specs.Numbers.{◌+f◌, ◌-f◌, ◌*f◌, ◌/f◌, f0}
use Rattle.points.specs.Points.{minus, moved, normalized, watched_point}
use Rattle.points.specs.declared.Point2.{Point2}
use Rattle.curve2.specs.Section.{points_of, next_length, lengths_of, whole_length}
use Rattle.curve2.specs.Stations.{station, edge_direction, at_vertex}
use Rattle.queries.specs.Nearest.{nearest_of}
use Rattle.curve2.specs.declared.CurveStation2.{CurveStation2}
use Rattle.sections.specs.declared.LengthPair.{LengthPair}
use Rattle.errors.specs.declared.Refusal.TheVariants.{OffCurve}

-- ---- by length

-- "Otherwise a point inside an edge": edge i from p at length m to q at length n
unfoldable pub inside_edge : ℕ → Point2 → Point2 → Float → Float → Float → Answer CurveStation2
inside_edge i p q m n l =
    normalized (minus q p) >>= λ d.
    watched ((l -f m) /f (n -f m)) >>= λ f.
    watched_point (moved p d (l -f m)) >>= λ at.
    Ok (station at d i f)

-- "an exact vertex length gives the vertex". The search goes from vertex i, at length m.
unfoldable pub at_length_from : List Float → Float → Float → ℕ → Float → List Point2 → Answer CurveStation2
at_length_from ns tol l i m [] = at_vertex ns tol i
at_length_from ns tol l i m (p ∷ []) = at_vertex ns tol i
at_length_from ns tol l i m (p ∷ (q ∷ ps)) =
    let n = next_length m p q in
    let later = at_length_from ns tol l (suc i) n (q ∷ ps) in
    cond (eq m l) (at_vertex ns tol i) (cond (lt l n) (inside_edge i p q m n l) later)

-- 9: "a length along below 0 or above the whole"
unfoldable pub at_length : List Float → Float → Float → Answer CurveStation2
at_length ns tol l = cond (lt l f0 || lt (whole_length ns) l) (Err OffCurve) (at_length_from ns tol l 0 f0 (points_of ns))

-- l[i]
abbrev pub length_at : List Float → ℕ → Float
length_at ns i = get_or (lengths_of (points_of ns)) i nan

-- l[i] + (l[i + 1] - l[i]) × fraction, also at fraction 1
unfoldable pub length_along : List Float → ℕ → Float → Answer Float
length_along ns i f =
    let m = length_at ns i in
    let n = length_at ns (i + 1) in
    watched (m +f (n -f m) *f f)

-- the lengths along of two places
unfoldable pub lengths_along : List Float → ℕ → Float → ℕ → Float → Answer LengthPair
unfolding length_along
lengths_along ns i f j g = length_along ns i f >>= λ l. length_along ns j g >>= λ m. Ok (record { first = l; second = m })

-- ---- by nearness

-- leaf rule "Nearest point": "the station has that edge, its direction, and s held to 0 to 1 as fraction"
unfoldable pub at_closest : List Float → Point2 → Answer CurveStation2
at_closest ns p = nearest_of ns p >>= λ n. edge_direction ns n.index >>= λ d. Ok (station n.at.point d n.index n.at.fraction)

-- 02 (f): "the lengths along of the section's nearest points to p0 and to p1"
unfoldable pub closest_lengths : List Float → Point2 → Point2 → Answer LengthPair
unfolding lengths_along
closest_lengths ns p q = nearest_of ns p >>= λ a. nearest_of ns q >>= λ b. lengths_along ns a.index a.at.fraction b.index b.at.fraction
