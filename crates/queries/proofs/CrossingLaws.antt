-- One pass gives the crossing: two hits are in order or swapped. Every edge has one hit at most, so the edges of a crossing differ. Assumes nothing.
use mathlib.Core.Logic.{◌⊎◌, inl, inr}
use mathlib.Core.Path.{◌≡◌, refl, sym, ap}
use mathlib.Core.Bool.{Bool, true, false, cond}
use mathlib.Core.List.{List, [], ◌∷◌}
use Rattle.std.specs.Prelude.{Option, Some, None, Ok, Err}
use Prim.Native.Nat.{ℕ, suc, ◌+◌, ◌≤◌, ◌<◌}
use native.Mathlib.Omega.{arith}
use lib.ListN.{length}
use lib.Ieee.{Float, lt}
use Rattle.errors.specs.Answer.{Answer, ◌>>=◌}
use Rattle.points.specs.declared.Point2.{Point2}
use Rattle.line2.specs.Lines.{line_through, at_param}
use Rattle.line2.specs.declared.Line2.{Line2}
use Rattle.queries.specs.Hits.{Edge, section_edges, hit, edge_hit, joined_to, hits_from, inserted, sorted_into, sorted, dropped_after, dropped}
use Rattle.queries.specs.Code.{seen_of, seen_hits}
use Rattle.queries.specs.declared.Hit.{Hit}
use Rattle.queries.specs.Crossing.{Span, span, span_edges, span_of, spanned, crossed, crossing_with, crossing_of, or_no_crossing, crossing_on}
use Rattle.queries.specs.declared.Crossing.{Crossing}
use Rattle.queries.specs.declared.hits.Seen.{Seen}

-- ---- edges of hits: below k, from k on and rising, and none twice

abbrev Below : ℕ → List Hit → Type 0
Below k [] = Unit {0}
Below k (h ∷ hs) = (h.edge < k) × Below k hs

abbrev pub Rising : ℕ → List Hit → Type 0
Rising k [] = Unit {0}
Rising k (h ∷ hs) = (k ≤ h.edge) × Rising (suc h.edge) hs

abbrev pub Other : ℕ → List Hit → Type 0
Other k [] = Unit {0}
Other k (h ∷ hs) = ((k ≡ h.edge) → ⊥) × Other k hs

abbrev pub Distinct : List Hit → Type 0
Distinct [] = Unit {0}
Distinct (h ∷ hs) = Other h.edge hs × Distinct hs

below_more : (k j : ℕ) (hs : List Hit) → k ≤ j → Below k hs → Below j hs
below_more k j [] h b = tt
below_more k j (g ∷ hs) h b = (omega arith, below_more k j hs h b.1)

rising_less : (k j : ℕ) (hs : List Hit) → k ≤ j → Rising j hs → Rising k hs
rising_less k j [] h r = tt
rising_less k j (g ∷ hs) h r = (omega arith, r.1)

other_below : (k j : ℕ) (hs : List Hit) → k ≤ j → Below k hs → Other j hs
other_below k j [] h b = tt
other_below k j (g ∷ hs) h b = (λ e. omega arith, other_below k j hs h b.1)

-- ---- the hits of the edges from k on rise

pub hits_rise : (l : Line2) (k : ℕ) (es : List Edge) (hs : List Hit) → hits_from l k es ≡ Ok hs → Rising k hs
unfolding hits_from
hits_rise l k [] hs e = rw (same e) tt
  where
    same : {a b : List Hit} → ◌≡◌ {A = Answer (List Hit)} (Ok a) (Ok b) → b ≡ a
    same p = cc
hits_rise l k (e ∷ es) hs p = go (edge_hit l e) (hits_from l (suc k) es) (hits_rise l (suc k) es) p
  where
    go : (a : Answer (Option Float)) (b : Answer (List Hit)) → ((gs : List Hit) → b ≡ Ok gs → Rising (suc k) gs) → (a >>= λ t. b >>= λ gs. Ok (joined_to k t gs)) ≡ Ok hs → Rising k hs
    go (Err n) b ih q = let z : ◌≡◌ {A = ℕ} 0 1 = cc in absurd (omega arith)
    go (Ok t) (Err n) ih q = let z : ◌≡◌ {A = ℕ} 0 1 = cc in absurd (omega arith)
    go (Ok None) (Ok gs) ih q = let e : hs ≡ gs = cc in rw e (rising_less k (suc k) gs (omega arith) (ih gs refl))
    go (Ok (Some t)) (Ok gs) ih q = let e : hs ≡ hit t k ∷ gs = cc in rw e (omega arith, ih gs refl)

-- ---- sorting keeps them apart

below_inserted : (k : ℕ) (h : Hit) (gs : List Hit) → h.edge < k → Below k gs → Below k (inserted h gs)
unfolding inserted
below_inserted k h [] l b = (l, tt)
below_inserted k h (g ∷ gs) l b = go (lt h.t g.t) (below_inserted k h gs l b.1)
  where
    go : (t : Bool) → Below k (inserted h gs) → Below k (cond t (h ∷ (g ∷ gs)) (g ∷ inserted h gs))
    go true ih = (l, b)
    go false ih = (b.0, ih)

other_inserted : (k : ℕ) (h : Hit) (gs : List Hit) → ((k ≡ h.edge) → ⊥) → Other k gs → Other k (inserted h gs)
unfolding inserted
other_inserted k h [] n o = (n, tt)
other_inserted k h (g ∷ gs) n o = go (lt h.t g.t) (other_inserted k h gs n o.1)
  where
    go : (t : Bool) → Other k (inserted h gs) → Other k (cond t (h ∷ (g ∷ gs)) (g ∷ inserted h gs))
    go true ih = (n, o)
    go false ih = (o.0, ih)

distinct_inserted : (h : Hit) (gs : List Hit) → Other h.edge gs → Distinct gs → Distinct (inserted h gs)
unfolding inserted
distinct_inserted h [] o d = (tt, tt)
distinct_inserted h (g ∷ gs) o d = go (lt h.t g.t) (distinct_inserted h gs o.1 d.1)
  where
    go : (t : Bool) → Distinct (inserted h gs) → Distinct (cond t (h ∷ (g ∷ gs)) (g ∷ inserted h gs))
    go true ih = (o, d)
    go false ih = (other_inserted g.edge h gs (λ e. o.0 (sym e)) d.0, ih)

pub distinct_sorted : (k : ℕ) (gs hs : List Hit) → Below k gs → Distinct gs → Rising k hs → Distinct (sorted_into gs hs)
unfolding sorted_into
distinct_sorted k gs [] b d r = d
distinct_sorted k gs (h ∷ hs) b d r =
    distinct_sorted (suc h.edge) (inserted h gs) hs
    (below_inserted (suc h.edge) h gs (omega arith) (below_more k (suc h.edge) gs (omega (arith, r.0)) b))
    (distinct_inserted h gs (other_below k h.edge gs r.0 b) d)
    r.1

-- ---- exactly two remain where there were two

length_inserted : (h : Hit) (gs : List Hit) → length (inserted h gs) ≡ suc (length gs)
unfolding inserted
length_inserted h [] = refl
length_inserted h (g ∷ gs) = go (lt h.t g.t) (length_inserted h gs)
  where
    go : (t : Bool) → length (inserted h gs) ≡ suc (length gs) → length (cond t (h ∷ (g ∷ gs)) (g ∷ inserted h gs)) ≡ suc (suc (length gs))
    go true ih = refl
    go false ih = ap suc ih

length-sorted : (gs hs : List Hit) → length (sorted_into gs hs) ≡ length gs + length hs
unfolding sorted_into
length-sorted gs [] = omega arith
length-sorted gs (h ∷ hs) = omega (arith, length-sorted (inserted h gs) hs, length_inserted h gs)

no_span : (hs : List Hit) → 3 ≤ length hs → span_of hs ≡ None
unfolding span_of
no_span [] h = absurd (omega arith)
no_span (g ∷ []) h = absurd (omega arith)
no_span (g ∷ (f ∷ [])) h = absurd (omega arith)
no_span (g ∷ (f ∷ (k ∷ hs))) h = refl

-- the span of what one pass has seen
abbrev pub span_seen : Seen → Option Span
span_seen Seen.Nothing = None
span_seen (Seen.One g) = None
span_seen (Seen.Pair g h) = Some (cond (lt h.t g.t) (span h g) (span g h))
span_seen Seen.Many = None

span-sorted : (hs : List Hit) → span_of (sorted hs) ≡ span_seen (seen_of hs)
unfolding sorted_into inserted span_of seen_of
span-sorted [] = refl
span-sorted (g ∷ []) = refl
span-sorted (g ∷ (h ∷ [])) = go (lt h.t g.t)
  where
    go : (b : Bool) → span_of (cond b (h ∷ (g ∷ [])) (g ∷ (h ∷ []))) ≡ Some (cond b (span h g) (span g h))
    go true = refl
    go false = refl
span-sorted (g ∷ (h ∷ (k ∷ hs))) = no_span (sorted (g ∷ (h ∷ (k ∷ hs)))) (omega (arith, length-sorted [] (g ∷ (h ∷ (k ∷ hs)))))

-- not exactly two
abbrev pub NotPair : Seen → Type 0
NotPair s = (s ≡ Seen.Nothing) ⊎ (((x : Hit) × (s ≡ Seen.One x)) ⊎ (s ≡ Seen.Many))

not_nothing : (f g : Hit) → Seen.Pair f g ≡ Seen.Nothing → ⊥
not_nothing f g e = let z : ◌≡◌ {A = ℕ} 0 1 = cc in absurd (omega arith)

not_one : (f g h : Hit) → Seen.Pair f g ≡ Seen.One h → ⊥
not_one f g h e = let z : ◌≡◌ {A = ℕ} 0 1 = cc in absurd (omega arith)

not_many : (f g : Hit) → Seen.Pair f g ≡ Seen.Many → ⊥
not_many f g e = let z : ◌≡◌ {A = ℕ} 0 1 = cc in absurd (omega arith)

pub no_pair : (f g : Hit) → NotPair (Seen.Pair f g) → ⊥
no_pair f g (inl e) = not_nothing f g e
no_pair f g (inr (inl w)) = not_one f g w.0 w.1
no_pair f g (inr (inr e)) = not_many f g e

pub no_crossing : (l : Line2) (s : Seen) → NotPair s → ◌≡◌ {A = Answer (Option Crossing)} (Ok None) (crossed l (span_seen s))
unfolding crossed
no_crossing l Seen.Nothing h = refl
no_crossing l (Seen.One g) h = refl
no_crossing l (Seen.Pair f g) h = absurd (no_pair f g h)
no_crossing l Seen.Many h = refl

pub crossing_seen : (ns : List Float) (l : Line2) → (seen_hits ns l >>= λ s. crossed l (span_seen s)) ≡ crossing_of ns l
unfolding crossing_of
crossing_seen ns l = go (hits_from l 0 (section_edges ns))
  where
    go : (a : Answer (List Hit)) → ((a >>= λ hs. Ok (seen_of hs)) >>= λ s. crossed l (span_seen s)) ≡ (a >>= λ hs. crossed l (span_of (sorted hs)))
    go (Err n) = refl
    go (Ok hs) = rw (span-sorted hs)

-- ---- the edges of a crossing are below the count of edges, and of a plain crossing they differ

hits_below : (l : Line2) (k : ℕ) (es : List Edge) (hs : List Hit) → hits_from l k es ≡ Ok hs → Below (k + length es) hs
unfolding hits_from
hits_below l k [] hs e = rw (same e) tt
  where
    same : {a b : List Hit} → ◌≡◌ {A = Answer (List Hit)} (Ok a) (Ok b) → b ≡ a
    same p = cc
hits_below l k (e ∷ es) hs p = go (edge_hit l e) (hits_from l (suc k) es) (hits_below l (suc k) es) p
  where
    more : (gs : List Hit) → Below (suc k + length es) gs → Below (k + suc (length es)) gs
    more gs b = below_more (suc k + length es) (k + suc (length es)) gs (omega arith) b

    go : (a : Answer (Option Float)) (b : Answer (List Hit)) → ((gs : List Hit) → b ≡ Ok gs → Below (suc k + length es) gs) → (a >>= λ t. b >>= λ gs. Ok (joined_to k t gs)) ≡ Ok hs → Below (k + suc (length es)) hs
    go (Err n) b ih q = let z : ◌≡◌ {A = ℕ} 0 1 = cc in absurd (omega arith)
    go (Ok t) (Err n) ih q = let z : ◌≡◌ {A = ℕ} 0 1 = cc in absurd (omega arith)
    go (Ok None) (Ok gs) ih q = let e : hs ≡ gs = cc in rw e (more gs (ih gs refl))
    go (Ok (Some t)) (Ok gs) ih q = let e : hs ≡ hit t k ∷ gs = cc in rw e (omega arith, more gs (ih gs refl))

below_sorted : (k : ℕ) (gs hs : List Hit) → Below k gs → Below k hs → Below k (sorted_into gs hs)
unfolding sorted_into
below_sorted k gs [] b c = b
below_sorted k gs (h ∷ hs) b c = below_sorted k (inserted h gs) hs (below_inserted k h gs c.0 b) c.1

below_dropped_after : (near : Hit → Hit → Bool) (k : ℕ) (g : Hit) (hs : List Hit) → Below k hs → Below k (dropped_after near g hs)
unfolding dropped_after
below_dropped_after near k g [] b = tt
below_dropped_after near k g (h ∷ hs) b = go (near g h) (below_dropped_after near k g hs b.1) (below_dropped_after near k h hs b.1)
  where
    go : (t : Bool) → Below k (dropped_after near g hs) → Below k (dropped_after near h hs) → Below k (cond t (dropped_after near g hs) (h ∷ dropped_after near h hs))
    go true i j = i
    go false i j = (b.0, j)

below_dropped : (near : Hit → Hit → Bool) (k : ℕ) (hs : List Hit) → Below k hs → Below k (dropped near hs)
unfolding dropped
below_dropped near k [] b = tt
below_dropped near k (h ∷ hs) b = (b.0, below_dropped_after near k h hs b.1)

span_below : (k : ℕ) (hs : List Hit) (s : Span) → Below k hs → span_of hs ≡ Some s → (s.first.edge < k) × (s.second.edge < k)
unfolding span_of
span_below k [] s b e = let z : ◌≡◌ {A = ℕ} 0 1 = cc in absurd (omega arith)
span_below k (g ∷ []) s b e = let z : ◌≡◌ {A = ℕ} 0 1 = cc in absurd (omega arith)
span_below k (g ∷ (h ∷ [])) s b e = let w : s ≡ span g h = cc in rw w (b.0, b.1.0)
span_below k (g ∷ (h ∷ (f ∷ hs))) s b e = let z : ◌≡◌ {A = ℕ} 0 1 = cc in absurd (omega arith)

span_differs : (hs : List Hit) (s : Span) → Distinct hs → span_of hs ≡ Some s → s.first.edge ≡ s.second.edge → ⊥
unfolding span_of
span_differs [] s d e q = let z : ◌≡◌ {A = ℕ} 0 1 = cc in absurd (omega arith)
span_differs (g ∷ []) s d e q = let z : ◌≡◌ {A = ℕ} 0 1 = cc in absurd (omega arith)
span_differs (g ∷ (h ∷ [])) s d e q = let w : s ≡ span g h = cc in d.0.0 (rw w at q)
span_differs (g ∷ (h ∷ (f ∷ hs))) s d e q = let z : ◌≡◌ {A = ℕ} 0 1 = cc in absurd (omega arith)

-- a crossing has the edges of its two hits
module _ (l : Line2) (x : Crossing) where
  crossed-edges : (o : Option Span) → crossed l o ≡ Ok (Some x) → (s : Span) × (o ≡ Some s) × (x.edges ≡ span_edges s)
  unfolding crossed spanned
  crossed-edges None e = let z : ◌≡◌ {A = ℕ} 0 1 = cc in absurd (omega arith)
  crossed-edges (Some s) e = (s, refl, through (at_param l s.first.t) (at_param l s.second.t) e)
    where
      last : (c : Answer Line2) → ((c >>= λ k. Ok (record { line = k; edges = span_edges s })) >>= λ y. Ok (Some y)) ≡ Ok (Some x) → x.edges ≡ span_edges s
      last (Err r) p = let z : ◌≡◌ {A = ℕ} 0 1 = cc in absurd (omega arith)
      last (Ok k) p = let w : x ≡ record { line = k; edges = span_edges s } = cc in rw w

      through : (a b : Answer Point2) → ((a >>= λ p. b >>= λ q. line_through p q >>= λ k. Ok (record { line = k; edges = span_edges s })) >>= λ y. Ok (Some y)) ≡ Ok (Some x) → x.edges ≡ span_edges s
      through (Err r) b p = let z : ◌≡◌ {A = ℕ} 0 1 = cc in absurd (omega arith)
      through (Ok q) (Err r) p = let z : ◌≡◌ {A = ℕ} 0 1 = cc in absurd (omega arith)
      through (Ok q) (Ok r) p = last (line_through q r) p

-- "both numbers are below the count of edges", of a joined crossing, whichever hits are near
pub joined-edges_below : (near : Hit → Hit → Bool) (ns : List Float) (l : Line2) (x : Crossing) → crossing_with near ns l ≡ Ok (Some x)
    → (x.edges.first < length (section_edges ns)) × (x.edges.second < length (section_edges ns))
unfolding crossing_with
joined-edges_below near ns l x e = go (hits_from l 0 (section_edges ns)) (λ hs q. below_more _ (length (section_edges ns)) hs (omega arith) (hits_below l 0 (section_edges ns) hs q)) e
  where
    go : (a : Answer (List Hit)) → ((hs : List Hit) → a ≡ Ok hs → Below (length (section_edges ns)) hs) → (a >>= λ hs. crossed l (span_of (dropped near (sorted hs)))) ≡ Ok (Some x)
        → (x.edges.first < length (section_edges ns)) × (x.edges.second < length (section_edges ns))
    go (Err r) b p = let z : ◌≡◌ {A = ℕ} 0 1 = cc in absurd (omega arith)
    go (Ok hs) b p =
        let found = crossed-edges l x (span_of (dropped near (sorted hs))) p in
        rw found.2 (span_below _ (dropped near (sorted hs)) found.0 (below_dropped near _ (sorted hs) (below_sorted _ [] hs tt (b hs refl))) found.1)

-- of the plain one
pub crossing-edges_below : (ns : List Float) (l : Line2) (x : Crossing) → crossing_of ns l ≡ Ok (Some x) → (x.edges.first < length (section_edges ns)) × (x.edges.second < length (section_edges ns))
unfolding crossing_of
crossing-edges_below ns l x e = go (hits_from l 0 (section_edges ns)) (λ hs q. below_more _ (length (section_edges ns)) hs (omega arith) (hits_below l 0 (section_edges ns) hs q)) e
  where
    go : (a : Answer (List Hit)) → ((hs : List Hit) → a ≡ Ok hs → Below (length (section_edges ns)) hs) → (a >>= λ hs. crossed l (span_of (sorted hs))) ≡ Ok (Some x)
        → (x.edges.first < length (section_edges ns)) × (x.edges.second < length (section_edges ns))
    go (Err r) b p = let z : ◌≡◌ {A = ℕ} 0 1 = cc in absurd (omega arith)
    go (Ok hs) b p =
        let found = crossed-edges l x (span_of (sorted hs)) p in
        rw found.2 (span_below _ (sorted hs) found.0 (below_sorted _ [] hs tt (b hs refl)) found.1)

pub crossing-edges-differ : (ns : List Float) (l : Line2) (x : Crossing) → crossing_of ns l ≡ Ok (Some x) → x.edges.first ≡ x.edges.second → ⊥
unfolding crossing_of
crossing-edges-differ ns l x e = go (hits_from l 0 (section_edges ns)) (hits_rise l 0 (section_edges ns)) e
  where
    go : (a : Answer (List Hit)) → ((hs : List Hit) → a ≡ Ok hs → Rising 0 hs) → (a >>= λ hs. crossed l (span_of (sorted hs))) ≡ Ok (Some x) → x.edges.first ≡ x.edges.second → ⊥
    go (Err r) h p q = let z : ◌≡◌ {A = ℕ} 0 1 = cc in absurd (omega arith)
    go (Ok hs) h p q =
        let apart = distinct_sorted 0 [] hs tt tt (h hs refl) in
        let found = crossed-edges l x (span_of (sorted hs)) p in
        span_differs (sorted hs) found.0 apart found.1 (rw found.2 at q)

-- a line that must cross has the crossing that it has
pub crossing_there : (ns : List Float) (l : Line2) (x : Crossing) → crossing_on ns l ≡ Ok x → crossing_of ns l ≡ Ok (Some x)
crossing_there ns l x e = go (crossing_of ns l) e
  where
    go : (a : Answer (Option Crossing)) → (a >>= or_no_crossing) ≡ Ok x → a ≡ Ok (Some x)
    go (Err r) p = let z : ◌≡◌ {A = ℕ} 0 1 = cc in absurd (omega arith)
    go (Ok None) p = let z : ◌≡◌ {A = ℕ} 0 1 = cc in absurd (omega arith)
    go (Ok (Some y)) p = let w : y ≡ x = cc in rw w
