-- The pass over the edges for the nearest point: each way through its body keeps that what is left decides. And the nearest point lies on one of the edges. Assumes nothing.
use mathlib.Core.Path.{◌≡◌, refl, sym, ap, ◌∙◌}
use mathlib.Core.Bool.{Bool, true, false, cond}
use mathlib.Core.List.{List, [], ◌∷◌}
use Prim.Native.Nat.{ℕ, suc, ◌+◌, ◌-◌, ◌*◌, ◌/◌, ◌<◌}
use native.Mathlib.Numerals.{add-one}
use native.Mathlib.Omega.{arith}
use lib.ListN.{length, drop}
use lib.Ieee.{Float, lt}
use Rattle.std.specs.Prelude.{Ok, Err}
use Rattle.errors.specs.Answer.{Answer, ◌>>=◌}
use Rattle.errors.specs.declared.Refusal.{Refusal}
use Rattle.errors.proofs.Laws.{bind_assoc}
use Rattle.points.specs.declared.Point2.{Point2}
use Rattle.points.specs.Closest.{closest_on_edge}
use Rattle.points.specs.declared.segment2.EdgePoint.{EdgePoint}
use Rattle.curve2.specs.Section.{points_of, point_at}
use Rattle.curve2.proofs.Laws.{length-points}
use Rattle.queries.specs.Hits.{Edge, section_edges}
use Rattle.queries.specs.Nearest.{nearest, closest_on_all, least_of, least_of_all, nearest_of}
use Rattle.queries.specs.declared.Nearest.{Nearest}
use Rattle.queries.proofs.hits.EdgeLaws.{edges_step, edges-end, next_edge, length-edges}

-- the nearest of the best so far and the edges from edge k on
abbrev pub closest_left : List Float → Point2 → ℕ → Nearest → Answer Nearest
closest_left ns p k best = closest_on_all p (section_edges (drop (2 * k) ns)) >>= λ qs. Ok (least_of best k qs)

module _ (ns : List Float) (p : Point2) (k : ℕ) (best : Nearest) (whole : Answer Nearest) (inv : closest_left ns p k best ≡ whole) where
  module _ (fits : 2 * k + 3 < length ns) (r : Answer EdgePoint) (is : r ≡ closest_on_edge p (point_at ns (2 * k)) (point_at ns (2 * k + 2))) where
    pub closest-refused : (x : Refusal) → r ≡ Err x → Err x ≡ whole
    unfolding closest_on_all
    closest-refused x e = rw (edges_step ns (2 * k) fits, ← (rw e at is)) at inv

    closest-next : (q : EdgePoint) (next : Nearest) → r ≡ Ok q → next ≡ cond (lt q.square best.at.square) (nearest k q) best → closest_left ns p (k + 1) next ≡ whole
    unfolding closest_on_all least_of
    closest-next q next e f =
        rw (f, next_edge k, add-one k)
        (sym (bind_assoc (closest_on_all p (section_edges (drop (2 * k + 2) ns))) (λ qs. Ok (q ∷ qs)) (λ qs. Ok (least_of best k qs)))
        ∙ (rw (edges_step ns (2 * k) fits, ← (rw e at is)) at inv))

    pub closest-nearer : (q : EdgePoint) → r ≡ Ok q → lt q.square best.at.square ≡ true → closest_left ns p (k + 1) (nearest k q) ≡ whole
    closest-nearer q e t = closest-next q (nearest k q) e (rw t)

    pub closest-kept : (q : EdgePoint) → r ≡ Ok q → lt q.square best.at.square ≡ false → closest_left ns p (k + 1) best ≡ whole
    closest-kept q e t = closest-next q best e (rw t)

  pub closest-end : 2 * k + 2 ≡ length ns → Ok best ≡ whole
  unfolding closest_on_all least_of
  closest-end h = rw (edges-end ns (2 * k) h) at inv

-- ---- the first edge

module _ (ns : List Float) (p : Point2) (fits : 3 < length ns) where
  pub first_refused : (r : Answer EdgePoint) → r ≡ closest_on_edge p (point_at ns 0) (point_at ns 2) → (x : Refusal) → r ≡ Err x → Err x ≡ nearest_of ns p
  unfolding nearest_of closest_on_all
  first_refused r is x e = rw (edges_step ns 0 fits, ← (rw e at is))

  pub first_nearest : (q : EdgePoint) → closest_on_edge p (point_at ns 0) (point_at ns 2) ≡ Ok q → closest_left ns p 1 (nearest 0 q) ≡ nearest_of ns p
  unfolding nearest_of closest_on_all least_of_all
  first_nearest q e = rw (edges_step ns 0 fits, e) (sym (bind_assoc (closest_on_all p (section_edges (drop 2 ns))) (λ qs. Ok (q ∷ qs)) least_of_all))

-- ---- the nearest point's edge is one of the section's

least_below : (best : Nearest) (i : ℕ) (qs : List EdgePoint) → best.index < i → (least_of best i qs).index < i + length qs
unfolding least_of
least_below best i [] h = omega arith
least_below best i (q ∷ qs) h = let b = lt q.square best.at.square in omega (arith, least_below (cond b (nearest i q) best) (suc i) qs (go b))
  where
    go : (b : Bool) → (cond b (nearest i q) best).index < suc i
    go true = omega arith
    go false = omega arith

length-closest : (p : Point2) (es : List Edge) (qs : List EdgePoint) → closest_on_all p es ≡ Ok qs → length qs ≡ length es
unfolding closest_on_all
length-closest p [] qs e = let z : qs ≡ [] = cc in rw z
length-closest p (e ∷ es) qs h = go (closest_on_edge p e.a e.b) (closest_on_all p es) (length-closest p es) h
  where
    go : (a : Answer EdgePoint) (b : Answer (List EdgePoint)) → ((rs : List EdgePoint) → b ≡ Ok rs → length rs ≡ length es) → (a >>= λ q. b >>= λ rs. Ok (q ∷ rs)) ≡ Ok qs → length qs ≡ suc (length es)
    go (Err n) b ih t = let z : ◌≡◌ {A = ℕ} 0 1 = cc in absurd (omega arith)
    go (Ok q) (Err n) ih t = let z : ◌≡◌ {A = ℕ} 0 1 = cc in absurd (omega arith)
    go (Ok q) (Ok rs) ih t = let z : qs ≡ q ∷ rs = cc in rw z (ap suc (ih rs refl))

least_index : (qs : List EdgePoint) (n : Nearest) → least_of_all qs ≡ Ok n → n.index < length qs
unfolding least_of_all
least_index [] n e = let z : ◌≡◌ {A = ℕ} 0 1 = cc in absurd (omega arith)
least_index (q ∷ qs) n e = let z : n ≡ least_of (nearest 0 q) 1 qs = cc in rw z (omega (arith, least_below (nearest 0 q) 1 qs (omega arith)))

pub nearest_below : (ns : List Float) (p : Point2) (n : Nearest) → nearest_of ns p ≡ Ok n → n.index < length ns / 2 - 1
unfolding nearest_of
nearest_below ns p n e = go (closest_on_all p (section_edges ns)) (length-closest p (section_edges ns)) e
  where
    go : (a : Answer (List EdgePoint)) → ((qs : List EdgePoint) → a ≡ Ok qs → length qs ≡ length (section_edges ns)) → (a >>= least_of_all) ≡ Ok n → n.index < length ns / 2 - 1
    go (Err k) l t = let z : ◌≡◌ {A = ℕ} 0 1 = cc in absurd (omega arith)
    go (Ok qs) l t = omega (arith, least_index qs n t, l qs refl, length-edges (points_of ns), length-points ns)
