-- The code's own steps: what a pass over the edges keeps of the hits, and where a hit goes among sorted ones. Neither `crossing_of` nor `joined_crossing_of` rests on it. Assumes nothing.
use Rattle.std.specs.Prelude.{cond, List, [], ◌∷◌, ℕ, zero, suc, ◌+◌, ◌-◌, Float, Option, Ok}
use Rattle.std.specs.Float.Ieee.{lt}
use Rattle.errors.specs.Answer.{Answer, ◌>>=◌}
use Rattle.line2.specs.declared.Line2.{Line2}
use Rattle.curve2.specs.Section.{point_at}
use Rattle.curve2.specs.Entry.{most_points}
use Rattle.queries.specs.Hits.{Edge, hits_of, sorted}
use Rattle.queries.specs.Crossing.{or_no_crossing}
use Rattle.queries.specs.declared.Hit.{Hit}
use Rattle.queries.specs.declared.Crossing.{Crossing}
use Rattle.queries.specs.declared.hits.Seen.{Seen}

-- ---- one pass: none, one, two in edge order, or that there are more

-- the edge whose first point's numbers start at i
abbrev pub edge_at : List Float → ℕ → Edge
edge_at ns i = record { a = point_at ns i; b = point_at ns (i + 2) }

unfoldable pub added_to : Seen → Hit → Seen
added_to Seen.Nothing h = Seen.One h
added_to (Seen.One g) h = Seen.Pair g h
added_to (Seen.Pair f g) h = Seen.Many
added_to Seen.Many h = Seen.Many

unfoldable pub seen_of : List Hit → Seen
seen_of [] = Seen.Nothing
seen_of (g ∷ []) = Seen.One g
seen_of (g ∷ (h ∷ [])) = Seen.Pair g h
seen_of (g ∷ (h ∷ (k ∷ hs))) = Seen.Many

abbrev pub seen_hits : List Float → Line2 → Answer Seen
seen_hits ns l = hits_of ns l >>= λ hs. Ok (seen_of hs)

-- ---- sorted, for the joined crossing

-- the edges that a section has at most
abbrev pub most_edges : ℕ
most_edges = most_points - 1

-- where t goes: in front of the first that is greater
unfoldable pub place_of : Float → List Hit → ℕ
place_of t [] = zero
place_of t (g ∷ gs) = let r = place_of t gs in cond (lt t g.t) zero (suc r)

abbrev pub sorted_hits : List Float → Line2 → Answer (List Hit)
sorted_hits ns l = hits_of ns l >>= λ hs. Ok (sorted hs)

-- these hits, or the refusal that came between
abbrev pub put_hits : Answer (Unit {0}) → List Hit → Answer (List Hit)
put_hits passed hs = passed >>= λ _. Ok hs

-- ---- a line that must cross

abbrev pub asked_of : Answer (Option Crossing) → Answer Crossing
asked_of found = found >>= or_no_crossing
