-- 02 (d): "A line whose only two hits lie on edges that aren't neighbours always has a joined crossing, these two, at any distance, unless 12 ends it." Assumes nothing.
use mathlib.Core.Path.{◌≡◌, refl, ◌∙◌}
use mathlib.Core.Bool.{Bool, true, false, ◌&&◌, ◌||◌, cond}
use mathlib.Core.List.{List, [], ◌∷◌}
use mathlib.Core.Logic.{◌⊎◌, inl, inr, ⊎_elim}
use Rattle.std.specs.Prelude.{Option, Some, Ok, Err}
use Prim.Native.Nat.{ℕ}
use lib.Ieee.{Float, lt}
use lib.Ieee.Scale.{finite}
use Rattle.errors.specs.Answer.{Answer, ◌>>=◌}
use Rattle.errors.specs.declared.Refusal.TheVariants.{NotFinite}
use Rattle.points.specs.Points.{difference, moved, minus}
use Rattle.points.specs.declared.Point2.{Point2}
use Rattle.line2.specs.Lines.{line_of, line_through, at_param}
use Rattle.line2.specs.declared.Line2.{Line2}
use Rattle.curve2.specs.Section.{is_closed}
use Rattle.queries.specs.Hits.{last_edge, hits_of, inserted, sorted_into, sorted, nearby, follows, across_seam, neighbours, nearby_neighbour, dropped_after, dropped}
use Rattle.queries.specs.Crossing.{Span, span, span_edges, span_of, spanned, crossed, crossing_with, joined_crossing_of}
use Rattle.queries.specs.declared.Hit.{Hit}
use Rattle.queries.specs.declared.Crossing.{Crossing}

-- ---- neighbours are so in either order

or_either : (a b : Bool) → (a || b) ≡ (b || a)
or_either true true = refl
or_either true false = refl
or_either false true = refl
or_either false false = refl

pub neighbours_either : (closed : Bool) (last i j : ℕ) → neighbours closed last i j ≡ neighbours closed last j i
unfolding neighbours
neighbours_either closed last i j = rw (or_either (follows i j) (follows j i), or_either (across_seam last i j) (across_seam last j i))

not_near : (closed : Bool) (last : ℕ) (g h : Hit) → neighbours closed last g.edge h.edge ≡ false → nearby_neighbour closed last g h ≡ false
unfolding nearby_neighbour
not_near closed last g h e = rw e (go (nearby g h))
  where
    go : (b : Bool) → (b && false) ≡ false
    go true = refl
    go false = refl

-- ---- two hits, the lesser fraction first

abbrev pub in_order : Hit → Hit → Span
in_order g h = cond (lt h.t g.t) (span h g) (span g h)

both_kept : (near : Hit → Hit → Bool) (g h : Hit) → near g h ≡ false → near h g ≡ false → span_of (dropped near (sorted (g ∷ (h ∷ [])))) ≡ Some (in_order g h)
unfolding sorted_into inserted dropped dropped_after span_of
both_kept near g h p q = go (lt h.t g.t)
  where
    go : (b : Bool) → span_of (dropped near (cond b (h ∷ (g ∷ [])) (g ∷ (h ∷ [])))) ≡ Some (cond b (span h g) (span g h))
    go true = rw q
    go false = rw p

-- ---- the sums of a crossing refuse by 12 alone

abbrev OrNotFinite : {A : Type 0} → Answer A → Type 0
OrNotFinite {A} a = ((x : A) × (a ≡ Ok x)) ⊎ (a ≡ Err NotFinite)

watched_or : {A : Type 0} (b : Bool) (x : A) → OrNotFinite (cond b (Ok x) (Err NotFinite))
watched_or true x = inl (x, refl)
watched_or false x = inr refl

at_or : (l : Line2) (t : Float) → OrNotFinite (at_param l t)
unfolding at_param
at_or l t = let p = moved l.origin l.direction t in watched_or (finite p.x && finite p.y) p

through_or : (a b : Point2) → OrNotFinite (line_through a b)
unfolding line_through difference
through_or a b = go (finite (minus b a).x && finite (minus b a).y)
  where
    go : (c : Bool) → OrNotFinite (cond c (Ok (minus b a)) (Err NotFinite) >>= λ v. Ok (line_of a v))
    go true = inl (line_of a (minus b a), refl)
    go false = inr refl

abbrev pub HasEdges : Span → Answer (Option Crossing) → Type 0
HasEdges s a = ((x : Crossing) × (a ≡ Ok (Some x)) × (x.edges ≡ span_edges s)) ⊎ (a ≡ Err NotFinite)

crossed_or : (l : Line2) (s : Span) → HasEdges s (crossed l (Some s))
unfolding crossed spanned
crossed_or l s = first (at_param l s.first.t) (at_or l s.first.t)
  where
    last : (c : Answer Line2) → OrNotFinite c → HasEdges s ((c >>= λ k. Ok (record { line = k; edges = span_edges s })) >>= λ y. Ok (Some y))
    last c o = ⊎_elim (λ w. rw w.1 (inl (record { line = w.0; edges = span_edges s }, refl, refl))) (λ e. rw e (inr refl)) o

    second : (p : Point2) (b : Answer Point2) → OrNotFinite b → HasEdges s ((b >>= λ q. line_through p q >>= λ k. Ok (record { line = k; edges = span_edges s })) >>= λ y. Ok (Some y))
    second p b o = ⊎_elim (λ w. rw w.1 (last (line_through p w.0) (through_or p w.0))) (λ e. rw e (inr refl)) o

    first : (a : Answer Point2) → OrNotFinite a → HasEdges s ((a >>= λ p. at_param l s.second.t >>= λ q. line_through p q >>= λ k. Ok (record { line = k; edges = span_edges s })) >>= λ y. Ok (Some y))
    first a o = ⊎_elim (λ w. rw w.1 (second w.0 (at_param l s.second.t) (at_or l s.second.t))) (λ e. rw e (inr refl)) o

-- ---- the promise

module _ (ns : List Float) (tol : Float) (l : Line2) (g h : Hit) (two : hits_of ns l ≡ Ok (g ∷ (h ∷ []))) (apart : neighbours (is_closed ns tol) (last_edge ns) g.edge h.edge ≡ false) where
  -- the joined crossing is theirs
  pub joined_of_two : joined_crossing_of ns tol l ≡ crossed l (Some (in_order g h))
  unfolding crossing_with
  joined_of_two =
      let there = not_near (is_closed ns tol) (last_edge ns) g h apart in
      let back = not_near (is_closed ns tol) (last_edge ns) h g (neighbours_either (is_closed ns tol) (last_edge ns) h.edge g.edge ∙ apart) in
      rw (two, both_kept (nearby_neighbour (is_closed ns tol) (last_edge ns)) g h there back)

  -- these two hits, or 12
  pub thin_tip : HasEdges (in_order g h) (joined_crossing_of ns tol l)
  thin_tip = rw joined_of_two (crossed_or l (in_order g h))
