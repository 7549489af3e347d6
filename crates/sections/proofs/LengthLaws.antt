-- The passes over the edges by length along: each way through a body keeps that what is left decides. Assumes nothing.
use mathlib.Core.Path.{◌≡◌, refl, sym, ap, ◌∙◌}
use mathlib.Core.Bool.{true, false}
use mathlib.Core.List.{List, [], ◌∷◌}
use Prim.Native.Nat.{ℕ, zero, suc, ◌+◌, ◌*◌, ◌/◌, ◌<◌}
use native.Mathlib.Numerals.{add-one}
use native.Mathlib.Omega.{arith}
use lib.ListN.{length, get_or, drop}
use lib.Seq.{drop-drop, get_or-drop}
use lib.Ieee.{Float, nan, lt, eq}
use Rattle.errors.specs.Answer.{Answer, watched}
use Rattle.points.specs.Numbers.{◌+f◌, ◌-f◌, ◌*f◌, f0}
use Rattle.points.specs.declared.Point2.{Point2}
use Rattle.curve2.specs.Section.{points_of, point_at, plain_dist, lengths_from, lengths_of}
use Rattle.curve2.specs.Entry.{HasPoints}
use Rattle.curve2.proofs.Laws.{points_step, points-end}
use Rattle.curve2.specs.Stations.{vertex, last_vertex, at_vertex}
use Rattle.sections.specs.Places.{inside_edge, at_length_from, length_at, length_along}
use Rattle.curve2.specs.declared.CurveStation2.{CurveStation2}

-- where the next vertex' numbers start
next_vertex : (i : ℕ) → 2 * (i + 1) ≡ 2 * i + 2
next_vertex i = omega arith

-- the ends of edge i, and the points after it
edge_step : (ns : List Float) (i : ℕ) → i < last_vertex ns → points_of (drop (2 * i) ns) ≡ point_at ns (2 * i) ∷ (point_at ns (2 * i + 2) ∷ points_of (drop (2 * i + 2 + 2) ns))
edge_step ns i h = rw (points_step ns (2 * i) (omega arith), points_step ns (2 * i + 2) (omega arith))

-- ---- the station at a length

module _ (ns : List Float) (tol l : Float) (i : ℕ) (m : Float) (whole : Answer CurveStation2) (inv : at_length_from ns tol l i m (points_of (drop (2 * i) ns)) ≡ whole) where
  module _ (fits : i < last_vertex ns) where
    pub at_exact : eq m l ≡ true → at_vertex ns tol i ≡ whole
    unfolding at_length_from
    at_exact e = rw (edge_step ns i fits, e) at inv

    module _ (off : eq m l ≡ false) (d : Float) (is : d ≡ plain_dist (point_at ns (2 * i + 2)) (point_at ns (2 * i))) where
      pub at_inside : lt l (d +f m) ≡ true → inside_edge i (vertex ns i) (vertex ns (i + 1)) m (d +f m) l ≡ whole
      unfolding at_length_from
      at_inside e = rw (next_vertex i) (rw (edge_step ns i fits, off, ← is, e) at inv)

      pub at_later : lt l (d +f m) ≡ false → at_length_from ns tol l (i + 1) (d +f m) (points_of (drop (2 * (i + 1)) ns)) ≡ whole
      unfolding at_length_from
      at_later e = rw (next_vertex i, add-one i, points_step ns (2 * i + 2) (omega arith)) (rw (edge_step ns i fits, off, ← is, e) at inv)

  pub at_last : HasPoints ns → i ≡ last_vertex ns → at_vertex ns tol i ≡ whole
  unfolding at_length_from
  at_last h e = rw (points_step ns (2 * i) (omega arith), points-end ns (2 * i + 2) (omega arith)) at inv

-- ---- the length along

first_length : (l : Float) (p : Point2) (ps : List Point2) → get_or (lengths_from l (p ∷ ps)) 0 nan ≡ l
unfolding lengths_from
first_length l p [] = refl
first_length l p (q ∷ ps) = refl

module _ (ns : List Float) (i : ℕ) (m : Float) (inv : drop i (lengths_of (points_of ns)) ≡ lengths_from m (points_of (drop (2 * i) ns))) (fits : i < last_vertex ns) (d : Float)
    (is : d ≡ plain_dist (point_at ns (2 * i + 2)) (point_at ns (2 * i))) where
  abbrev ls : List Float
  ls = lengths_of (points_of ns)

  here : drop i ls ≡ m ∷ lengths_from (d +f m) (points_of (drop (2 * i + 2) ns))
  unfolding lengths_from
  here = rw (points_step ns (2 * i + 2) (omega arith)) (rw (edge_step ns i fits, ← is) at inv)

  lengths_step : drop (i + 1) ls ≡ lengths_from (d +f m) (points_of (drop (2 * (i + 1)) ns))
  lengths_step = rw (next_vertex i) (sym (drop-drop 1 i ls) ∙ ap (λ (x : List Float). drop 1 x) here)

  length_next : get_or ls (i + 1) nan ≡ d +f m
  length_next = sym (get_or-drop i ls 1 nan) ∙ rw (here, points_step ns (2 * i + 2) (omega arith)) (first_length (d +f m) _ _)

-- at the first vertex
pub length_start : (ns : List Float) → 1 < length ns → length_at ns 0 ≡ f0
unfolding lengths_of
length_start ns h = rw (points_step ns 0 (omega arith)) (first_length f0 (point_at ns 0) (points_of (drop 2 ns)))

-- at every vertex the lengths left start with the length there
pub lengths_at : (ns : List Float) (i : ℕ) → i < length ns / 2 → drop i (lengths_of (points_of ns)) ≡ lengths_from (length_at ns i) (points_of (drop (2 * i) ns))
unfolding lengths_of
lengths_at ns zero h = rw (points_step ns 0 (omega arith), first_length f0 (point_at ns 0) (points_of (drop 2 ns)))
lengths_at ns (suc i) h =
    let inv = lengths_at ns i (omega arith) in
    let fits : i < last_vertex ns = omega arith in
    rw (← (add-one i)) (lengths_step ns i (length_at ns i) inv fits _ refl ∙ rw (length_next ns i (length_at ns i) inv fits _ refl))

-- the length at the next vertex
pub length_after : (ns : List Float) (i : ℕ) → i < last_vertex ns → length_at ns (i + 1) ≡ plain_dist (point_at ns (2 * i + 2)) (point_at ns (2 * i)) +f length_at ns i
length_after ns i fits = length_next ns i (length_at ns i) (lengths_at ns i (omega arith)) fits _ refl

pub length-told : (ns : List Float) (i : ℕ) (m d f : Float) → i < last_vertex ns → m ≡ length_at ns i → d ≡ plain_dist (point_at ns (2 * i + 2)) (point_at ns (2 * i))
    → watched (m +f (d +f m -f m) *f f) ≡ length_along ns i f
unfolding length_along
length-told ns i m d f fits e g = rw (e, g, length_after ns i fits)
