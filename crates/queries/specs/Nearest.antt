-- Leaf rule "Nearest point": every edge is tried; "least squared distance wins, the lower edge on a tie". Assumes nothing.
use Rattle.std.specs.Prelude.{cond, List, [], ◌∷◌, ℕ, suc, Float, Ok, Err}
use Rattle.std.specs.Float.Ieee.{lt}
use Rattle.errors.specs.Answer.{Answer, ◌>>=◌}
use Rattle.points.specs.declared.Point2.{Point2}
use Rattle.points.specs.Closest.{closest_on_edge}
use Rattle.points.specs.declared.segment2.EdgePoint.{EdgePoint}
use Rattle.queries.specs.Hits.{Edge, section_edges}
use Rattle.queries.specs.declared.Nearest.{Nearest}
use Rattle.errors.specs.declared.Refusal.TheVariants.{PointCount}

abbrev pub nearest : ℕ → EdgePoint → Nearest
nearest i q = record { index = i; at = q }

-- the nearest point of every edge
unfoldable pub closest_on_all : Point2 → List Edge → Answer (List EdgePoint)
closest_on_all p [] = Ok []
closest_on_all p (e ∷ es) = closest_on_edge p e.a e.b >>= λ q. closest_on_all p es >>= λ qs. Ok (q ∷ qs)

-- Of the least so far and those of the edges from i on: a later one wins only where its squared distance is less.
unfoldable pub least_of : Nearest → ℕ → List EdgePoint → Nearest
least_of best i [] = best
least_of best i (q ∷ qs) = least_of (cond (lt q.square best.at.square) (nearest i q) best) (suc i) qs

-- (A section has an edge. Of no points, the refusal is that of too few.)
unfoldable pub least_of_all : List EdgePoint → Answer Nearest
unfolding least_of
least_of_all [] = Err PointCount
least_of_all (q ∷ qs) = Ok (least_of (nearest 0 q) 1 qs)

unfoldable pub nearest_of : List Float → Point2 → Answer Nearest
nearest_of ns p = closest_on_all p (section_edges ns) >>= least_of_all
