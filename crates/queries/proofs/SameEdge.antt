-- 02 (l): the pass of document 01's `crossing_line`, "a neighbour on the same edge and nearer than 1e-8 is dropped", never drops anything: every edge is tried once and gives at most one hit. So `crossing_of`
-- has no such pass; the definition that had it stands here, as the reason. Assumes nothing.
use mathlib.Core.Path.{◌≡◌, refl, ap}
use mathlib.Core.Bool.{Bool, ◌&&◌}
use mathlib.Core.List.{List, [], ◌∷◌}
use Rattle.std.specs.Prelude.{Option, Ok, Err}
use borrow.Author.Tests.{ne_eqb}
use lib.Dec.{eqb}
use lib.Ieee.{Float}
use Rattle.errors.specs.Answer.{Answer, ◌>>=◌}
use Rattle.line2.specs.declared.Line2.{Line2}
use Rattle.queries.specs.Hits.{section_edges, hits_from, hits_of, sorted, nearby, dropped_after, dropped}
use Rattle.queries.specs.Crossing.{span_of, crossed, crossing_with, crossing_of}
use Rattle.queries.specs.declared.Hit.{Hit}
use Rattle.queries.specs.declared.Crossing.{Crossing}
use Rattle.queries.proofs.CrossingLaws.{Other, Distinct, hits_rise, distinct_sorted}

-- "on the same edge and nearer than 1e-8"
abbrev pub nearby_on_edge : Hit → Hit → Bool
nearby_on_edge g h = eqb g.edge h.edge && nearby g h

-- the crossing with the pass
abbrev pub crossing_with_pass : List Float → Line2 → Answer (Option Crossing)
crossing_with_pass ns l = crossing_with nearby_on_edge ns l

none_dropped_after : (g : Hit) (hs : List Hit) → Other g.edge hs → Distinct hs → dropped_after nearby_on_edge g hs ≡ hs
unfolding dropped_after
none_dropped_after g [] o d = refl
none_dropped_after g (h ∷ hs) o d = rw (ne_eqb g.edge h.edge o.0) (ap (λ (x : List Hit). h ∷ x) (none_dropped_after h hs d.0 d.1))

none_dropped : (hs : List Hit) → Distinct hs → dropped nearby_on_edge hs ≡ hs
unfolding dropped
none_dropped [] d = refl
none_dropped (h ∷ hs) d = ap (λ (x : List Hit). h ∷ x) (none_dropped_after h hs d.0 d.1)

-- "this pass never drops anything"
pub sorted_hits_stay : (ns : List Float) (l : Line2) (hs : List Hit) → hits_of ns l ≡ Ok hs → dropped nearby_on_edge (sorted hs) ≡ sorted hs
sorted_hits_stay ns l hs e = none_dropped (sorted hs) (distinct_sorted 0 [] hs tt tt (hits_rise l 0 (section_edges ns) hs e))

-- so the crossing is the same without it
pub pass_drops_nothing : (ns : List Float) (l : Line2) → crossing_with_pass ns l ≡ crossing_of ns l
unfolding crossing_with crossing_of
pass_drops_nothing ns l = go (hits_from l 0 (section_edges ns)) (sorted_hits_stay ns l)
  where
    go : (a : Answer (List Hit)) → ((hs : List Hit) → a ≡ Ok hs → dropped nearby_on_edge (sorted hs) ≡ sorted hs) → (a >>= λ hs. crossed l (span_of (dropped nearby_on_edge (sorted hs)))) ≡ (a >>= λ hs. crossed l (span_of (sorted hs)))
    go (Err r) f = refl
    go (Ok hs) f = rw (f hs refl)
