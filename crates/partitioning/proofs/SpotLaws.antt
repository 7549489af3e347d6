-- Where `at_length` finds a station, and the lengths at its edge. Assumes nothing.
use mathlib.Core.Path.{◌≡◌, refl, ap}
use mathlib.Core.Bool.{Bool, true, false, ◌||◌, cond}
use mathlib.Core.List.{List}
use Prim.Native.Nat.{ℕ, zero, suc, ◌+◌, ◌*◌, ◌^◌, ◌≤◌, ◌<◌}
use native.Mathlib.Numerals.{add-one}
use native.Mathlib.Nat.{add-zero}
use native.Mathlib.Omega.{arith}
use lib.Dec.{T}
use lib.ListN.{drop}
use lib.Ieee.{Float, binary64, fits, lt, eq}
use lib.Ieee.Fits.{add-fits}
use lib.Ieee.Scale.{finite}
use Rattle.std.specs.Prelude.{Ok, Err}
use Rattle.errors.specs.Answer.{Answer, watched, ◌>>=◌}
use Rattle.errors.specs.declared.Refusal.TheVariants.{NotFinite, OffCurve}
use Rattle.points.specs.Numbers.{◌+f◌, ◌-f◌, ◌/f◌, f0, f1}
use Rattle.points.specs.Points.{minus, moved, normalized, watched_point}
use Rattle.points.specs.declared.Point2.{Point2}
use Rattle.points.specs.declared.Vector2.{Vector2}
use Rattle.curve2.specs.Section.{points_of, point_at, plain_dist, whole_length}
use Rattle.curve2.specs.Entry.{HasPoints, IsSection}
use Rattle.curve2.specs.Stations.{station, vertex, last_vertex, at_vertex}
use Rattle.curve2.specs.declared.CurveStation2.{CurveStation2}
use Rattle.sections.specs.Places.{inside_edge, at_length_from, at_length, length_at}
use Rattle.sections.proofs.LengthLaws.{length_start, length_after, at_exact, at_inside, at_later, at_last}
use Rattle.sections.proofs.RisingLaws.{length_rises, length-plus, length-finite}
use Rattle.points.proofs.Plus.{Size, sized, f0-fits}
use Rattle.partitioning.proofs.Floats.{lt_size, size_unique}
use Rattle.partitioning.proofs.TurnLaws.{at_inner, at-end}

-- ---- the lengths of a section

module _ (ns : List Float) (tol : Float) (sec : IsSection ns tol) where
  pub length-fits : (i : ℕ) → i ≤ last_vertex ns → T (fits binary64 (length_at ns i))
  length-fits zero h = rw (length_start ns (omega (arith, sec.points.least))) f0-fits
  length-fits (suc i) h = rw (← (add-one i), length_after ns i (omega arith)) (add-fits binary64 (plain_dist (point_at ns (2 * i + 2)) (point_at ns (2 * i))) (length_at ns i))

  pub length-size : (i : ℕ) → i < last_vertex ns → Size (length_at ns i)
  length-size i h = sized (length_at ns i) (length-fits i (omega arith)) (length-plus ns tol sec i (omega arith)) (length-finite ns tol sec i h)

  -- later lengths are no smaller
  pub length-order : (k i : ℕ) → i + k < last_vertex ns → (s : Size (length_at ns i)) (t : Size (length_at ns (i + k))) → s.digits * 2 ^ s.exponent ≤ t.digits * 2 ^ t.exponent
  length-order zero i h s t =
      let same : length_at ns (i + 0) ≡ length_at ns i = ap (λ (n : ℕ). length_at ns n) (add-zero i) in
      omega (arith, size_unique (length_at ns i) (s.digits * 2 ^ s.exponent) (t.digits * 2 ^ t.exponent) s.value (rw same at t.value))
  length-order (suc k) i h s t =
      let u = length-size (i + k) (omega arith) in
      let before = length-order k i (omega arith) s u in
      let next : i + suc k ≡ i + k + 1 = omega arith in
      let less = lt_size (length_at ns (i + k)) (length_at ns (i + k + 1)) (u.digits * 2 ^ u.exponent) (t.digits * 2 ^ t.exponent) u.value (rw (ap (λ (n : ℕ). length_at ns n) next) at t.value) (length_rises ns tol sec (i + k) (omega arith)) in
      omega (arith, before, less)

-- ---- where a station is

pub data Spot (ns : List Float) (l : Float) (s : CurveStation2) : Type 0 where
  on_vertex : s.index < last_vertex ns → s.fraction ≡ f0 → Spot ns l s
  on_last : s.index + 1 ≡ last_vertex ns → s.fraction ≡ f1 → Spot ns l s
  inside : s.index < last_vertex ns → s.fraction ≡ (l -f length_at ns s.index) /f (length_at ns (s.index + 1) -f length_at ns s.index) → lt l (length_at ns s.index) ≡ false
      → eq (length_at ns s.index) l ≡ false → lt l (length_at ns (s.index + 1)) ≡ true → Spot ns l s

spot_inner : (ns : List Float) (tol l : Float) (i : ℕ) (s : CurveStation2) → i < last_vertex ns → at_vertex ns tol i ≡ Ok s → Spot ns l s
spot_inner ns tol l i s h e = let a = at_inner ns tol i s (λ z. omega (arith, z, h)) e in on_vertex (omega (arith, a.index, h)) a.fraction

spot_last : (ns : List Float) (tol l : Float) (i : ℕ) (s : CurveStation2) → 1 ≤ last_vertex ns → i ≡ last_vertex ns → at_vertex ns tol i ≡ Ok s → Spot ns l s
spot_last ns tol l i s k h e = let a = at-end ns tol i s h e in on_last (omega (arith, a.index, h, k)) a.fraction

-- what an edge's inside gives
inside_is : (i : ℕ) (p q : Point2) (m n l : Float) (s : CurveStation2) → inside_edge i p q m n l ≡ Ok s → (s.index ≡ i) × (s.fraction ≡ (l -f m) /f (n -f m))
unfolding inside_edge
inside_is i p q m n l s e = go (normalized (minus q p)) e
  where
    at : (d : Vector2) (b : Bool) (a : Answer Point2) → (cond b (Ok ((l -f m) /f (n -f m))) (Err NotFinite) >>= λ f. a >>= λ at. Ok (station at d i f)) ≡ Ok s
        → (s.index ≡ i) × (s.fraction ≡ (l -f m) /f (n -f m))
    at d false a e = let z : ◌≡◌ {A = ℕ} 0 1 = cc in absurd (omega arith)
    at d true (Err r) e = let z : ◌≡◌ {A = ℕ} 0 1 = cc in absurd (omega arith)
    at d true (Ok x) e = (cc, cc)

    go : (a : Answer Vector2) → (a >>= λ d. watched ((l -f m) /f (n -f m)) >>= λ f. watched_point (moved p d (l -f m)) >>= λ at. Ok (station at d i f)) ≡ Ok s
        → (s.index ≡ i) × (s.fraction ≡ (l -f m) /f (n -f m))
    go (Err r) e = let z : ◌≡◌ {A = ℕ} 0 1 = cc in absurd (omega arith)
    go (Ok d) e = at d (finite ((l -f m) /f (n -f m))) (watched_point (moved p d (l -f m))) e

module _ (ns : List Float) (tol l : Float) (s : CurveStation2) (pts : HasPoints ns) where
  -- the search, from vertex i on, with k edges left
  spot_from : (k i : ℕ) → i + k ≡ last_vertex ns → lt l (length_at ns i) ≡ false → at_length_from ns tol l i (length_at ns i) (points_of (drop (2 * i) ns)) ≡ Ok s → Spot ns l s
  spot_from zero i h b e = spot_last ns tol l i s (omega (arith, pts.least)) (omega (arith, h)) (at_last ns tol l i (length_at ns i) (Ok s) e pts (omega (arith, h)))
  spot_from (suc k) i h b e = go (eq (length_at ns i) l) (lt l (length_at ns (i + 1))) refl refl (λ b₂ e₂. spot_from k (i + 1) (omega (arith, h)) b₂ e₂)
    where
      fits_here : i < last_vertex ns
      fits_here = omega (arith, h)

      after : length_at ns (i + 1) ≡ plain_dist (point_at ns (2 * i + 2)) (point_at ns (2 * i)) +f length_at ns i
      after = length_after ns i fits_here

      go : (x y : Bool) → eq (length_at ns i) l ≡ x → lt l (length_at ns (i + 1)) ≡ y
          → (lt l (length_at ns (i + 1)) ≡ false → at_length_from ns tol l (i + 1) (length_at ns (i + 1)) (points_of (drop (2 * (i + 1)) ns)) ≡ Ok s → Spot ns l s) → Spot ns l s
      go true y p q ih = spot_inner ns tol l i s fits_here (at_exact ns tol l i (length_at ns i) (Ok s) e fits_here p)
      go false true p q ih =
          let is = at_inside ns tol l i (length_at ns i) (Ok s) e fits_here p _ refl (rw after at q) in
          let at = inside_is i (vertex ns i) (vertex ns (i + 1)) (length_at ns i) (length_at ns (i + 1)) l s (rw after is) in
          inside (omega (arith, at.0, fits_here)) (rw at.0 at.1) (rw at.0 b) (rw at.0 p) (rw at.0 q)
      go false false p q ih = ih q (rw after (at_later ns tol l i (length_at ns i) (Ok s) e fits_here p _ refl (rw after at q)))

pub spot : (ns : List Float) (tol l : Float) (s : CurveStation2) → IsSection ns tol → at_length ns tol l ≡ Ok s → Spot ns l s
unfolding at_length
spot ns tol l s sec e = go (lt l f0) (lt (whole_length ns) l) refl e
  where
    go : (x y : Bool) → lt l f0 ≡ x → cond (x || y) (Err OffCurve) (at_length_from ns tol l 0 f0 (points_of ns)) ≡ Ok s → Spot ns l s
    go true y p e = let z : ◌≡◌ {A = ℕ} 0 1 = cc in absurd (omega arith)
    go false true p e = let z : ◌≡◌ {A = ℕ} 0 1 = cc in absurd (omega arith)
    go false false p e =
        let start = length_start ns (omega (arith, sec.points.least)) in
        spot_from ns tol l s sec.points (last_vertex ns) 0 (omega arith) (rw start p) (rw start e)

pub spot_on : (ns : List Float) (l : Float) (s : CurveStation2) → Spot ns l s → s.index < last_vertex ns
spot_on ns l s (on_vertex h f) = h
spot_on ns l s (on_last h f) = omega (arith, h)
spot_on ns l s (inside h f a b c) = h
