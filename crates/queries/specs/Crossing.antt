-- `crossing_line`: "answers exactly if two remain"; and the joined crossing. Assumes nothing.
use Rattle.std.specs.Prelude.{Bool, List, [], ◌∷◌, Float, Option, Some, None, Ok, Err}
use Rattle.errors.specs.Answer.{Answer, ◌>>=◌}
use Rattle.line2.specs.Lines.{line_through, at_param}
use Rattle.curve2.specs.Section.{is_closed}
use Rattle.line2.specs.declared.Line2.{Line2}
use Rattle.queries.specs.Hits.{last_edge, hits_of, sorted, dropped, nearby_neighbour}
use Rattle.queries.specs.declared.Hit.{Hit}
use Rattle.queries.specs.declared.HitEdges.{HitEdges}
use Rattle.queries.specs.declared.Crossing.{Crossing}
use Rattle.errors.specs.declared.Refusal.TheVariants.{NoCrossing}

-- the two hits
pub record Span : Type 0 where
  pub first : Hit
  pub second : Hit

abbrev pub span : Hit → Hit → Span
span g h = record { first = g; second = h }

-- 02 (a): "the two edge numbers, in the order of its two points"
abbrev pub span_edges : Span → HitEdges
span_edges s = record { first = s.first.edge; second = s.second.edge }

-- exactly two
unfoldable pub span_of : List Hit → Option Span
span_of [] = None
span_of (g ∷ []) = None
span_of (g ∷ (h ∷ [])) = Some (span g h)
span_of (g ∷ (h ∷ (k ∷ hs))) = None

-- the line from the first hit to the second
unfoldable pub spanned : Line2 → Span → Answer Crossing
spanned l s = at_param l s.first.t >>= λ a. at_param l s.second.t >>= λ b. line_through a b >>= λ k. Ok (record { line = k; edges = span_edges s })

unfoldable pub crossed : Line2 → Option Span → Answer (Option Crossing)
unfolding spanned
crossed l None = Ok None
crossed l (Some s) = spanned l s >>= λ c. Ok (Some c)

-- collect, sort, count. 02 (l): a pass over near hits on one edge would drop none (`pass_drops_nothing`, queries/proofs/SameEdge)
unfoldable pub crossing_of : List Float → Line2 → Answer (Option Crossing)
crossing_of ns l = hits_of ns l >>= λ hs. crossed l (span_of (sorted hs))

-- collect, sort, drop, count
unfoldable pub crossing_with : (Hit → Hit → Bool) → List Float → Line2 → Answer (Option Crossing)
crossing_with near ns l = hits_of ns l >>= λ hs. crossed l (span_of (dropped near (sorted hs)))

-- "as above, but a hit nearer than 1e-8 in fraction to the last kept hit is dropped"; 02 (d): only if the last kept hit is on a neighbouring edge. The section is closed by its tolerance.
abbrev pub joined_crossing_of : List Float → Float → Line2 → Answer (Option Crossing)
joined_crossing_of ns tol l = crossing_with (nearby_neighbour (is_closed ns tol) (last_edge ns)) ns l

-- 8: "a line asked for directly, or a start line, has not exactly two hits"
abbrev pub or_no_crossing : Option Crossing → Answer Crossing
or_no_crossing None = Err NoCrossing
or_no_crossing (Some c) = Ok c

-- the crossing of a line that must have one
abbrev pub crossing_on : List Float → Line2 → Answer Crossing
crossing_on ns l = crossing_of ns l >>= or_no_crossing
