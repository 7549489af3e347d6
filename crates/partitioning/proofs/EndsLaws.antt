-- The two stations of a stretch: the walk stops at the end's edge, and it goes over the seam only where that is no later edge than the start's. Assumes nothing.
use mathlib.Core.Path.{◌≡◌, refl, sym, ap, ◌∙◌}
use mathlib.Core.Bool.{Bool, true, false, not, ◌&&◌, cond, true≢false}
use mathlib.Core.List.{List}
use Prim.Native.Nat.{ℕ, ◌+◌, ◌-◌, ◌*◌, ◌^◌, ◌≤◌, ◌<◌}
use native.Mathlib.Nat.{add-sub_of_le, le_trans, le_of_lt, lt_of_le_of_lt}
use native.Mathlib.Omega.{arith}
use borrow.Author.Tests.{ltb-true, ltb-false}
use lib.Dec.{T, ltb}
use lib.Ieee.{Float, binary64, low, fits, lt, le, eq}
use lib.Ieee.Scale.{finite}
use Rattle.std.specs.Prelude.{Ok, Err}
use Rattle.errors.specs.Answer.{Answer, watched, ◌>>=◌}
use Rattle.points.specs.Numbers.{◌+f◌, ◌-f◌, ◌*f◌, ◌/f◌, f0, f1, is_within}
use Rattle.curve2.specs.Section.{is_closed}
use Rattle.curve2.specs.Entry.{IsSection}
use Rattle.curve2.specs.Stations.{last_vertex}
use Rattle.curve2.specs.declared.CurveStation2.{CurveStation2}
use Rattle.curve2.proofs.Laws.{or_right}
use Rattle.errors.specs.declared.Refusal.TheVariants.{NotFinite}
use Rattle.sections.specs.Places.{at_length, length_at, length_along}
use Rattle.partitioning.specs.Walk.{along, ends_of, wrap, is_empty}
use Rattle.partitioning.specs.Code.{Stops, Walkable}
use Rattle.partitioning.specs.declared.Ends.{Ends}
use Rattle.points.proofs.Plus.{Size, plus, sized, f0-value, f1-value, add-finite, sub-finite, mul-finite, unit_pos}
use Rattle.partitioning.proofs.Floats.{Above, Below, lt_size, not-lt-size, size-le, size-not-lt, size_unique, at_start, not-before, not_behind, fraction-value, interval_plus, plus-between}
use Rattle.sections.proofs.RisingLaws.{length_rises, length-plus, length-finite}
use Rattle.partitioning.proofs.SpotLaws.{Spot, on_vertex, on_last, inside, spot, spot_on, length-fits, length-size, length-order}

-- ---- the four steps to the ends

pub record EndsAre (ns : List Float) (tol l0 l1 : Float) (e : Ends) : Type 0 where
  pub start : at_length ns tol l0 ≡ Ok e.start
  pub end : at_length ns tol l1 ≡ Ok e.end
  pub to : along ns e.end ≡ Ok e.to
  pub from : along ns e.start ≡ Ok e.from

pub ends_are : (ns : List Float) (tol l0 l1 : Float) (e : Ends) → ends_of ns tol l0 l1 ≡ Ok e → EndsAre ns tol l0 l1 e
unfolding ends_of
ends_are ns tol l0 l1 e h = go (at_length ns tol l0) (at_length ns tol l1) refl refl h
  where
    last : (s t : CurveStation2) (a b : Answer Float) → at_length ns tol l0 ≡ Ok s → at_length ns tol l1 ≡ Ok t → along ns t ≡ a → along ns s ≡ b
        → (a >>= λ to. b >>= λ from. Ok (record { start = s; end = t; from = from; to = to })) ≡ Ok e → EndsAre ns tol l0 l1 e
    last s t (Err r) b p q u v h = let z : ◌≡◌ {A = ℕ} 0 1 = cc in absurd (omega arith)
    last s t (Ok x) (Err r) p q u v h = let z : ◌≡◌ {A = ℕ} 0 1 = cc in absurd (omega arith)
    last s t (Ok x) (Ok y) p q u v h =
        let is : record { start = s; end = t; from = y; to = x } ≡ e = cc in
        rw (← is) (record { start = p; end = q; to = u; from = v })

    go : (a b : Answer CurveStation2) → at_length ns tol l0 ≡ a → at_length ns tol l1 ≡ b
        → (a >>= λ start. b >>= λ end. along ns end >>= λ to. along ns start >>= λ from. Ok (record { start = start; end = end; from = from; to = to })) ≡ Ok e → EndsAre ns tol l0 l1 e
    go (Err r) b p q h = let z : ◌≡◌ {A = ℕ} 0 1 = cc in absurd (omega arith)
    go (Ok s) (Err r) p q h = let z : ◌≡◌ {A = ℕ} 0 1 = cc in absurd (omega arith)
    go (Ok s) (Ok t) p q h = last s t (along ns t) (along ns s) p q refl refl h

-- ---- a length along

watched_is : (x y : Float) → watched x ≡ Ok y → (y ≡ x) × T (finite x)
watched_is x y e = go (finite x) refl e
  where
    go : (b : Bool) → finite x ≡ b → cond b (Ok x) (Err NotFinite) ≡ Ok y → (y ≡ x) × T (finite x)
    go true p h = (cc, rw p tt)
    go false p h = let z : ◌≡◌ {A = ℕ} 0 1 = cc in absurd (omega arith)

module _ (ns : List Float) (tol : Float) (sec : IsSection ns tol) (i : ℕ) (on : i < last_vertex ns) where
  abbrev m : Float
  m = length_at ns i

  abbrev n : Float
  n = length_at ns (i + 1)

  pub along_is : (f x : Float) → length_along ns i f ≡ Ok x → (x ≡ length_at ns i +f (length_at ns (i + 1) -f length_at ns i) *f f) × T (finite (length_at ns i +f (length_at ns (i + 1) -f length_at ns i) *f f))
  unfolding length_along
  along_is f x e = watched_is (length_at ns i +f (length_at ns (i + 1) -f length_at ns i) *f f) x e

  sm : Size (length_at ns i)
  sm = length-size ns tol sec i on

  -- what a finite length along tells of the edge
  module _ (f : Float) (t : T (finite (length_at ns i +f (length_at ns (i + 1) -f length_at ns i) *f f))) where
    edge_finite : T (finite (length_at ns (i + 1) -f length_at ns i))
    edge_finite = (mul-finite (length_at ns (i + 1) -f length_at ns i) f (add-finite (length_at ns i) ((length_at ns (i + 1) -f length_at ns i) *f f) t).1).0

    sn : Size (length_at ns (i + 1))
    sn = sized (length_at ns (i + 1)) (length-fits ns tol sec (i + 1) (omega (arith, on))) (length-plus ns tol sec (i + 1) (omega (arith, on))) (sub-finite (length_at ns (i + 1)) (length_at ns i) edge_finite).0

    longer : (s : Size (length_at ns i)) → s.digits * 2 ^ s.exponent < sn.digits * 2 ^ sn.exponent
    longer s = lt_size (length_at ns i) (length_at ns (i + 1)) (s.digits * 2 ^ s.exponent) (sn.digits * 2 ^ sn.exponent) s.value sn.value (length_rises ns tol sec i on)

    edge_plus : T (plus (length_at ns (i + 1) -f length_at ns i))
    edge_plus = interval_plus (length_at ns i) (length_at ns (i + 1)) sm sn (omega (arith, longer sm)) edge_finite

-- a place inside the edge, found by its length l
module _ (ns : List Float) (tol : Float) (sec : IsSection ns tol) (i : ℕ) (on : i < last_vertex ns) (l : Float) (fit : T (fits binary64 l)) (f : Float)
    (is : f ≡ (l -f length_at ns i) /f (length_at ns (i + 1) -f length_at ns i)) (not_below : lt l (length_at ns i) ≡ false) (not_same : eq (length_at ns i) l ≡ false) (below : lt l (length_at ns (i + 1)) ≡ true)
    (t : T (finite (length_at ns i +f (length_at ns (i + 1) -f length_at ns i) *f f))) (sm : Size (length_at ns i)) (sn : Size (length_at ns (i + 1))) where
  sl : Size l
  sl =
      let b = plus-between (length_at ns i) l (length_at ns (i + 1)) (length-plus ns tol sec i (omega (arith, on))) (length-finite ns tol sec i on) not_below not_same (rw below tt) in
      sized l fit b.0 b.1

  from_start : sm.digits * 2 ^ sm.exponent ≤ sl.digits * 2 ^ sl.exponent
  from_start = not-lt-size (length_at ns i) l (sm.digits * 2 ^ sm.exponent) (sl.digits * 2 ^ sl.exponent) sm.value sl.value not_below

  to_end : sl.digits * 2 ^ sl.exponent < sn.digits * 2 ^ sn.exponent
  to_end = lt_size l (length_at ns (i + 1)) (sl.digits * 2 ^ sl.exponent) (sn.digits * 2 ^ sn.exponent) sl.value sn.value below

  abbrev K : ℕ
  K = sn.digits * 2 ^ sn.exponent - sm.digits * 2 ^ sm.exponent

  abbrev K₀ : ℕ
  K₀ = sl.digits * 2 ^ sl.exponent - sm.digits * 2 ^ sm.exponent

  pub inside_above : Above (length_at ns i +f (length_at ns (i + 1) -f length_at ns i) *f f) (sm.digits * 2 ^ sm.exponent)
  inside_above =
      let u = rw is at t in
      let end = add-sub_of_le (le_of_lt (lt_of_le_of_lt from_start to_end)) in
      let place = add-sub_of_le from_start in
      let less : K₀ < K = omega (arith, from_start, to_end) in
      rw is
      (not-before (length_at ns i) sm (length_at ns (i + 1) -f length_at ns i) (edge_plus ns tol sec i on f t) ((l -f length_at ns i) /f (length_at ns (i + 1) -f length_at ns i)) _ (2 ^ low binary64) unit_pos
      (fraction-value (length_at ns i) (length_at ns (i + 1)) l sm sn sl K K₀ end place less u) u)

  pub inside_below : Below (length_at ns i +f (length_at ns (i + 1) -f length_at ns i) *f f) (sn.digits * 2 ^ sn.exponent)
  inside_below =
      rw is
      (not_behind (length_at ns i) (length_at ns (i + 1)) l sm sn sl K K₀ (add-sub_of_le (le_of_lt (lt_of_le_of_lt from_start to_end))) (add-sub_of_le from_start) (omega (arith, from_start, to_end)) (rw is at t))

-- ---- a station, by where it is

module _ (ns : List Float) (tol : Float) (sec : IsSection ns tol) (l : Float) (fit : T (fits binary64 l)) (s : CurveStation2) (x : Float) (is : along ns s ≡ Ok x) where
  -- no earlier than the start of its edge
  pub station_above : Spot ns l s → (sm : Size (length_at ns s.index)) → Above x (sm.digits * 2 ^ sm.exponent)
  station_above (on_vertex on f) sm =
      let a = along_is ns tol sec s.index on s.fraction x is in
      rw (a.0, f) (not-before (length_at ns s.index) sm (length_at ns (s.index + 1) -f length_at ns s.index) (edge_plus ns tol sec s.index on s.fraction a.1) f0 0 1 (omega arith) f0-value (rw f at a.1))
  station_above (on_last e f) sm =
      let on : s.index < last_vertex ns = omega (arith, e) in
      let a = along_is ns tol sec s.index on s.fraction x is in
      rw (a.0, f) (not-before (length_at ns s.index) sm (length_at ns (s.index + 1) -f length_at ns s.index) (edge_plus ns tol sec s.index on s.fraction a.1) f1 1 1 (omega arith) f1-value (rw f at a.1))
  station_above (inside on f p q r) sm =
      let a = along_is ns tol sec s.index on s.fraction x is in
      rw a.0 (inside_above ns tol sec s.index on l fit s.fraction f p q r a.1 sm (sn ns tol sec s.index on s.fraction a.1))

  -- no later than its end, but on the last vertex
  pub station_below : Spot ns l s → s.index + 1 < last_vertex ns → (sn : Size (length_at ns (s.index + 1))) → Below x (sn.digits * 2 ^ sn.exponent)
  station_below (on_vertex on f) inner sn =
      let a = along_is ns tol sec s.index on s.fraction x is in
      let sm = length-size ns tol sec s.index on in
      let d = length_at ns (s.index + 1) -f length_at ns s.index in
      rw (a.0, f)
      (record {
        units = sm.digits * 2 ^ sm.exponent;
        value = at_start (length_at ns s.index) sm d (edge_plus ns tol sec s.index on s.fraction a.1) (edge_finite ns tol sec s.index on s.fraction a.1) (rw f at a.1);
        most = le_of_lt (lt_size (length_at ns s.index) (length_at ns (s.index + 1)) (sm.digits * 2 ^ sm.exponent) (sn.digits * 2 ^ sn.exponent) sm.value sn.value (length_rises ns tol sec s.index on));
      })
  station_below (on_last e f) inner sn = absurd (omega (arith, e, inner))
  station_below (inside on f p q r) inner sn =
      let a = along_is ns tol sec s.index on s.fraction x is in
      rw a.0 (inside_below ns tol sec s.index on l fit s.fraction f p q r a.1 (length-size ns tol sec s.index on) sn)

-- ---- both stations

module _ (ns : List Float) (tol l0 l1 : Float) (e : Ends) (sec : IsSection ns tol) (fit0 : T (fits binary64 l0)) (fit1 : T (fits binary64 l1)) (are : EndsAre ns tol l0 l1 e) where
  start_spot : Spot ns l0 e.start
  start_spot = spot ns tol l0 e.start sec are.start

  end_spot : Spot ns l1 e.end
  end_spot = spot ns tol l1 e.end sec are.end

  end_on : e.end.index < last_vertex ns
  end_on = spot_on ns l1 e.end end_spot

  -- at the first vertex of the end's edge the length along is not beyond the end's
  stops : Stops ns e
  stops at h =
      let i = e.end.index in
      let sm = length-size ns tol sec e.end.index end_on in
      let a = along_is ns tol sec e.end.index end_on f0 at h in
      let up = station_above ns tol sec l1 fit1 e.end e.to are.to end_spot sm in
      let d = length_at ns (e.end.index + 1) -f length_at ns e.end.index in
      let v = at_start (length_at ns e.end.index) sm d (edge_plus ns tol sec e.end.index end_on f0 a.1) (edge_finite ns tol sec e.end.index end_on f0 a.1) a.1 in
      rw a.0 (size-le (length_at ns e.end.index +f d *f f0) e.to (sm.digits * 2 ^ sm.exponent) up.units v up.value up.least)

  -- an end on a later edge lies no earlier
  in_order : e.start.index < e.end.index → wrap e ≡ false
  in_order h =
      let sn = length-size ns tol sec (e.start.index + 1) (omega (arith, h, end_on)) in
      let sm = length-size ns tol sec e.end.index end_on in
      let down = station_below ns tol sec l0 fit0 e.start e.from are.from start_spot (omega (arith, h, end_on)) sn in
      let up = station_above ns tol sec l1 fit1 e.end e.to are.to end_spot sm in
      let k = e.end.index - (e.start.index + 1) in
      let next : e.start.index + 1 + k ≡ e.end.index = omega (arith, h) in
      let rise = edges_rise (e.start.index + 1) k e.end.index next end_on sn sm in
      size-not-lt e.from e.to down.units up.units down.value up.value (le_trans down.most (le_trans rise up.least))
    where
      edges_rise : (i k j : ℕ) → i + k ≡ j → j < last_vertex ns → (s : Size (length_at ns i)) (t : Size (length_at ns j)) → s.digits * 2 ^ s.exponent ≤ t.digits * 2 ^ t.exponent
      edges_rise i k j q on s t =
          let u = length-size ns tol sec (i + k) (omega (arith, q, on)) in
          let same : length_at ns (i + k) ≡ length_at ns j = ap (λ (n : ℕ). length_at ns n) q in
          omega (
            arith,
            length-order ns tol sec k i (omega (arith, q, on)) s u,
            size_unique (length_at ns j) (u.digits * 2 ^ u.exponent) (t.digits * 2 ^ t.exponent) (rw same at u.value) t.value,
          )

  -- where the end doesn't lie before the start, the start lies no later than the end
  pub start_first : wrap e ≡ false → le e.from e.to ≡ true
  start_first w =
      let from = station_above ns tol sec l0 fit0 e.start e.from are.from start_spot (length-size ns tol sec e.start.index (spot_on ns l0 e.start start_spot)) in
      let to = station_above ns tol sec l1 fit1 e.end e.to are.to end_spot (length-size ns tol sec e.end.index end_on) in
      size-le e.from e.to from.units to.units from.value to.value (not-lt-size e.from e.to from.units to.units from.value to.value w)

  pub walkable : is_empty ns tol l0 l1 e ≡ false → Walkable ns tol e
  walkable h =
      record {
        points = sec.points;
        start = spot_on ns l0 e.start start_spot;
        end = end_on;
        stops = stops;
        seam = λ w. seam-closed (is_closed ns tol) w (or_right (is_within tol (l1 -f l0)) (not (is_closed ns tol) && wrap e) h);
        order = λ w. ordered (ltb e.start.index e.end.index) refl w;
      }
    where
      seam-closed : (b : Bool) → wrap e ≡ true → (not b && wrap e) ≡ false → b ≡ true
      seam-closed true w q = refl
      seam-closed false w q = absurd (true≢false (sym w ∙ q))

      ordered : (t : Bool) → ltb e.start.index e.end.index ≡ t → wrap e ≡ true → e.end.index ≤ e.start.index
      ordered false p w = ltb-false e.start.index e.end.index p
      ordered true p w = absurd (true≢false (sym w ∙ in_order (ltb-true e.start.index e.end.index p)))
