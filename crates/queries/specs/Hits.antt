-- Leaf rule "Hits": "every edge is tried, in edge order"; and the steps on them: "Hits are sorted, ties in edge order". Assumes nothing.
use Rattle.std.specs.Prelude.{Bool, ◌&&◌, ◌||◌, cond, List, [], ◌∷◌, ℕ, suc, ◌-◌, eqb, length, Float, Option, Some, None, Ok}
use Rattle.std.specs.Float.Ieee.{lt, le, of_bits}
use Rattle.std.specs.Float.{binary64}
use Rattle.errors.specs.Answer.{Answer, ◌>>=◌}
use Rattle.points.specs.Numbers.{◌-f◌, f0, f1, is_within}
use Rattle.points.specs.Points.{minus}
use Rattle.points.specs.declared.Point2.{Point2}
use Rattle.line2.specs.Lines.{line_of}
use Rattle.line2.specs.Intersection.{intersection_param}
use Rattle.line2.specs.declared.Line2.{Line2}
use Rattle.line2.specs.declared.LineParams.{LineParams}
use Rattle.curve2.specs.Section.{points_of}
use Rattle.queries.specs.declared.Hit.{Hit}

-- ---- the edges of a section, in order: each from a point to the next

pub record Edge : Type 0 where
  pub a : Point2
  pub b : Point2

unfoldable pub edges_of : List Point2 → List Edge
edges_of [] = []
edges_of (p ∷ []) = []
edges_of (p ∷ (q ∷ ps)) = record { a = p; b = q } ∷ edges_of (q ∷ ps)

abbrev pub section_edges : List Float → List Edge
section_edges ns = edges_of (points_of ns)

-- the number of the last edge
abbrev pub last_edge : List Float → ℕ
last_edge ns = length (section_edges ns) - 1

-- ---- hits

-- a hit: its fraction along the line, and its edge
abbrev pub hit : Float → ℕ → Hit
hit t i = record { t = t; edge = i }

-- "Both ends of an edge count."
abbrev pub on_edge : Option LineParams → Option Float
on_edge None = None
on_edge (Some p) = cond (le f0 p.s && le p.s f1) (Some p.t) None

unfoldable pub edge_hit : Line2 → Edge → Answer (Option Float)
edge_hit l e = intersection_param l (line_of e.a (minus e.b e.a)) >>= λ found. Ok (on_edge found)

-- the hit of edge i, if it has one, and those after it
abbrev pub joined_to : ℕ → Option Float → List Hit → List Hit
joined_to i None hs = hs
joined_to i (Some t) hs = hit t i ∷ hs

unfoldable pub hits_from : Line2 → ℕ → List Edge → Answer (List Hit)
hits_from l i [] = Ok []
hits_from l i (e ∷ es) = edge_hit l e >>= λ t. hits_from l (suc i) es >>= λ hs. Ok (joined_to i t hs)

abbrev pub hits_of : List Float → Line2 → Answer (List Hit)
hits_of ns l = hits_from l 0 (section_edges ns)

-- ---- sorted: each goes in front of the first that is greater, so that ties stay in edge order

unfoldable pub inserted : Hit → List Hit → List Hit
inserted h [] = h ∷ []
inserted h (g ∷ gs) = cond (lt h.t g.t) (h ∷ (g ∷ gs)) (g ∷ inserted h gs)

unfoldable pub sorted_into : List Hit → List Hit → List Hit
sorted_into gs [] = gs
sorted_into gs (h ∷ hs) = sorted_into (inserted h gs) hs

abbrev pub sorted : List Hit → List Hit
sorted hs = sorted_into [] hs

-- ---- dropped: a hit that is near the last kept one

-- 1e-8
abbrev pub small : Float
small = of_bits binary64 0x3e45_798e_e230_8c3a

abbrev pub nearby : Hit → Hit → Bool
nearby g h = is_within small (h.t -f g.t)

-- 02 (d): neighbouring edges are those whose numbers differ by one, "last and first edge of a closed section being neighbours"
abbrev pub follows : ℕ → ℕ → Bool
follows i j = eqb (suc i) j

abbrev pub across_seam : ℕ → ℕ → ℕ → Bool
across_seam last i j = eqb i last && eqb j 0

unfoldable pub neighbours : Bool → ℕ → ℕ → ℕ → Bool
neighbours closed last i j = (follows i j || follows j i) || (closed && (across_seam last i j || across_seam last j i))

-- "it drops a hit only if the last kept hit is on a neighbouring edge as well"
unfoldable pub nearby_neighbour : Bool → ℕ → Hit → Hit → Bool
nearby_neighbour closed last g h = nearby g h && neighbours closed last g.edge h.edge

unfoldable pub dropped_after : (Hit → Hit → Bool) → Hit → List Hit → List Hit
dropped_after near g [] = []
dropped_after near g (h ∷ hs) = cond (near g h) (dropped_after near g hs) (h ∷ dropped_after near h hs)

unfoldable pub dropped : (Hit → Hit → Bool) → List Hit → List Hit
unfolding dropped_after
dropped near [] = []
dropped near (h ∷ hs) = h ∷ dropped_after near h hs
