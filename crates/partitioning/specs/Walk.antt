-- The walk of `between_lengths`: from one station of a section to another, over the seam of a closed section where that lies between them. Assumes nothing.
use Rattle.std.specs.Prelude.{Bool, true, false, not, ◌&&◌, ◌||◌, cond, List, [], ◌∷◌, ◌++◌, ℕ, zero, suc, ◌+◌, ◌-◌, ltb, length, Float, Ok, Err}
use Rattle.std.specs.Float.Ieee.{lt, le}
use Rattle.errors.specs.Answer.{Answer, ◌>>=◌}
use Rattle.errors.specs.Lists.{last_of}
use Rattle.points.specs.Numbers.{◌-f◌, is_within}
use Rattle.points.specs.declared.Point2.{Point2}
use Rattle.curve2.specs.Section.{plain_dist, is_closed}
use Rattle.curve2.specs.Stations.{last_vertex, at_vertex}
use Rattle.curve2.specs.declared.CurveStation2.{CurveStation2}
use Rattle.cleaning.specs.Cleaning.{kept}
use Rattle.sections.specs.Places.{at_length, length_along}
use Rattle.partitioning.specs.declared.Ends.{Ends}
use Rattle.errors.specs.declared.Refusal.TheVariants.{EmptyStretch}

-- ---- where the stretch begins and ends

-- a station's `length_along`
abbrev pub along : List Float → CurveStation2 → Answer Float
along ns s = length_along ns s.index s.fraction

-- "let start = self.at_length(l0)?; let end = self.at_length(l1)?", and then the lengths along of both
unfoldable pub ends_of : List Float → Float → Float → Float → Answer Ends
ends_of ns tol l0 l1 =
    at_length ns tol l0 >>= λ start.
    at_length ns tol l1 >>= λ end.
    along ns end >>= λ to.
    along ns start >>= λ from.
    Ok (record { start = start; end = end; from = from; to = to })

-- "let mut wrap = end.length_along() < start.length_along()": by the stations, not by the lengths handed in
abbrev pub wrap : Ends → Bool
wrap e = lt e.to e.from

-- 21: "when the lengths differ by less than the section tolerance, when an open section's end lies before its start"
abbrev pub is_empty : List Float → Float → Float → Float → Ends → Bool
is_empty ns tol l0 l1 e = is_within tol (l1 -f l0) || (not (is_closed ns tol) && wrap e)

-- ---- the loop

-- "let last_index = if self.is_closed { self.count() - 2 } else { self.count() - 1 }"
abbrev pub last_index : List Float → Float → ℕ
last_index ns tol = cond (is_closed ns tol) (last_vertex ns - 1) (last_vertex ns)

-- "working.length_along() <= end.length_along() && next_index > end.index": the end lies on the edge behind `working`
unfoldable pub reached : List Float → Ends → CurveStation2 → Answer Bool
reached ns e w = along ns w >>= λ at. Ok (le at e.to && ltb e.end.index (w.index + 1))

-- The points behind `working` as far as one pass over the vertices goes, and whether it went over the last index before the end was reached.
pub record Leg : Type 0 where
  pub points : List Point2
  pub over : Bool

-- a leg that begins with the point of a vertex
abbrev pub behind : CurveStation2 → Leg → Leg
behind v leg = record { points = v.point ∷ leg.points; over = leg.over }

-- One turn: "if next_index > last_index", where no vertex is `left`; or else the end is reached; or else "working = self.at_vertex(next_index)", with its 11.
-- No leg comes to an open section's last vertex: the end is reached before it.
unfoldable pub leg_from : List Float → Float → Ends → ℕ → CurveStation2 → Answer Leg
leg_from ns tol e zero w = Ok (record { points = []; over = true })
leg_from ns tol e (suc left) w =
    let next = at_vertex ns tol (w.index + 1) >>= λ v. leg_from ns tol e left v >>= λ leg. Ok (behind v leg) in
    reached ns e w >>= λ stop.
    cond stop (Ok (record { points = []; over = false })) next

-- "otherwise we go to the beginning": "working = self.at_front()", and from there to the end
unfoldable pub from_front : List Float → Float → Ends → Answer (List Point2)
from_front ns tol e = at_vertex ns tol 0 >>= λ front. leg_from ns tol e (last_index ns tol) front >>= λ leg. Ok (front.point ∷ leg.points)

-- "Terminal condition if we're not wrapping": the points behind the start
unfoldable pub walked : List Float → Float → Ends → Answer (List Point2)
walked ns tol e =
    leg_from ns tol e (last_index ns tol - e.start.index) e.start >>= λ first.
    cond (first.over && wrap e) (from_front ns tol e >>= λ ps. Ok (first.points ++ ps)) (Ok first.points)

-- ---- what the cleaning is given

-- "if dist(&end.point, points.last().unwrap()) > self.tol { points.push(end.point); }"
abbrev pub with_end : Float → Point2 → Point2 → List Point2 → List Point2
with_end tol q p ps = cond (lt tol (plain_dist q (last_of p ps))) (p ∷ (ps ++ (q ∷ []))) (p ∷ ps)

unfoldable pub given_between : List Float → Float → Ends → Answer (List Point2)
given_between ns tol e = walked ns tol e >>= λ ps. Ok (with_end tol e.end.point e.start.point ps)

-- 21: "when under two points remain"
abbrev pub or_too_few : Float → List Point2 → Answer (List Point2)
or_too_few tol ps = cond (ltb (length (kept tol ps)) 2) (Err EmptyStretch) (Ok ps)

-- The points that the walk gives the cleaning.
unfoldable pub given_of : List Float → Float → Float → Float → Answer (List Point2)
given_of ns tol l0 l1 =
    ends_of ns tol l0 l1 >>= λ e.
    cond (is_empty ns tol l0 l1 e) (Err EmptyStretch) (given_between ns tol e >>= or_too_few tol)
