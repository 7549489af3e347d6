-- What holds of every piece: how many points its walk gave, that it fits, and which entry tests it passes when it is handed in. Assumes nothing.
use mathlib.Core.Path.{◌≡◌, refl, sym, ap, ◌∙◌}
use mathlib.Core.Bool.{Bool, true, false, not, ◌&&◌, ◌||◌, cond, true≢false}
use mathlib.Core.List.{List, [], ◌∷◌, ◌++◌}
use Rattle.std.specs.Prelude.{Option, Some, None, Ok, Err}
use Prim.Native.Nat.{ℕ, zero, suc, ◌+◌, ◌-◌, ◌*◌, ◌/◌, ◌≤◌, ◌<◌}
use native.Mathlib.Omega.{arith}
use borrow.Author.Tests.{eqb-true, eqb-false, ltb-false, not-false}
use lib.Dec.{T, eqb, ltb}
use lib.ListN.{length, get_or}
use lib.Ieee.{Float, nan, binary64, fits, lt, le}
use lib.Ieee.Bits.{is_true}
use lib.Ieee.Fits.{add-fits}
use lib.Ieee.Scale.{finite}
use Rattle.errors.specs.Answer.{Answer, ◌>>=◌}
use Rattle.errors.specs.Lists.{last_of}
use Rattle.errors.proofs.Laws.{passed_by, passed_on}
use Rattle.errors.specs.declared.Refusal.TheVariants.{EmptyStretch, WrongKind}
use Rattle.points.specs.Numbers.{◌+f◌, ◌-f◌, f0, is_within}
use Rattle.points.specs.declared.Point2.{Point2}
use Rattle.curve2.specs.Section.{points_of, plain_dist, is_closed, lengths_from, lengths_of, whole_length}
use Rattle.curve2.specs.Entry.{most_points, bad_count, in_range, bad_numbers, bad_tolerance, crowded, IsSection}
use Rattle.curve2.specs.Stations.{vertex, last_vertex, at_vertex}
use Rattle.curve2.specs.declared.CurveStation2.{CurveStation2}
use Rattle.curve2.proofs.Laws.{or_right}
use Rattle.cleaning.specs.Cleaning.{kept, point_numbers}
use Rattle.cleaning.proofs.Numbers.{numbers-length, points-numbers}
use Rattle.cleaning.proofs.Made.{kept-count}
use Rattle.cleaning.proofs.Laws.{IsCurve, neither, bad_point_lem, good_whole, whole_apart, count_passes}
use Rattle.partitioning.specs.Walk.{along, ends_of, reached, is_empty, wrap, last_index, Leg, behind, leg_from, from_front, walked, with_end, given_between, or_too_few, given_of}
use Rattle.partitioning.specs.Code.{IsCuttable, EndAhead, Walkable, turn_of}
use Rattle.partitioning.specs.Pieces.{Stretch, cleaned_stretch, stretch_of, Halves, both_of, is_short, stretch_entry, between_lengths, split_open, split_closed}
use Rattle.partitioning.specs.declared.Ends.{Ends}
use Rattle.partitioning.specs.declared.walk.Working.{Working}
use Rattle.partitioning.proofs.TurnLaws.{at_inner, at-end}
use Rattle.partitioning.proofs.LegLaws.{went_on, still_ahead, inner, vertex_on, onward, leg_by_turn}
use Rattle.points.proofs.Plus.{f0-fits}
use Rattle.partitioning.proofs.SpotLaws.{spot, spot_on}
use Rattle.partitioning.proofs.EndsLaws.{ends_are, start_first}
use Rattle.partitioning.proofs.StretchLaws.{given_walkable}
use Rattle.partitioning.proofs.PieceLaws.{given-count, cuttable, two_cuttable}

-- ---- the coordinates of the points given

abbrev Good : List Point2 → Type 0
Good ps = bad_numbers (point_numbers ps) ≡ false

good_cons : (p : Point2) (ps : List Point2) → Good (p ∷ []) → Good ps → Good (p ∷ ps)
good_cons p ps g h = bad_point_lem p ps ∙ rw g h

good_append : (ps qs : List Point2) → Good ps → Good qs → Good (ps ++ qs)
good_append [] qs g h = h
good_append (p ∷ ps) qs g h =
    let n = neither (bad_numbers (point_numbers (p ∷ []))) (bad_numbers (point_numbers ps)) (sym (bad_point_lem p ps) ∙ g) in
    good_cons p (ps ++ qs) n.0 (good_append ps qs n.1 h)

number_good : (ns : List Float) (i : ℕ) → bad_numbers ns ≡ false → i < length ns → in_range (get_or ns i nan) ≡ true
unfolding bad_numbers
number_good [] i b h = absurd (omega arith)
number_good (x ∷ ns) zero b h = not-false (in_range x) (neither (not (in_range x)) (bad_numbers ns) b).0
number_good (x ∷ ns) (suc i) b h = number_good ns i (neither (not (in_range x)) (bad_numbers ns) b).1 (omega arith)

vertex_good : (ns : List Float) (j : ℕ) → bad_numbers ns ≡ false → 2 * j + 1 < length ns → Good (vertex ns j ∷ [])
unfolding bad_numbers point_numbers
vertex_good ns j b h = rw (number_good ns (2 * j) b (omega arith), number_good ns (2 * j + 1) b h)

vertex-point : (ns : List Float) (tol : Float) (j : ℕ) (v : CurveStation2) → at_vertex ns tol j ≡ Ok v → v.point ≡ vertex ns j
vertex-point ns tol j v e = go (eqb j (last_vertex ns)) refl
  where
    go : (b : Bool) → eqb j (last_vertex ns) ≡ b → v.point ≡ vertex ns j
    go true g = (at-end ns tol j v (eqb-true _ _ g) e).point
    go false g = (at_inner ns tol j v (eqb-false j (last_vertex ns) g) e).point

module _ (ns : List Float) (tol : Float) (sec : IsSection ns tol) where
  edges : 1 ≤ last_vertex ns
  edges = omega (arith, sec.points.least)

  station_good : (j : ℕ) (v : CurveStation2) → j ≤ last_vertex ns → at_vertex ns tol j ≡ Ok v → Good (v.point ∷ [])
  station_good j v h e = rw (vertex-point ns tol j v e) (vertex_good ns j sec.numbers (omega (arith, h, sec.points.least)))

  good_behind : (v : CurveStation2) (a : Answer Leg) (leg : Leg) → Good (v.point ∷ []) → ((l : Leg) → a ≡ Ok l → Good l.points) → (a >>= λ l. Ok (behind v l)) ≡ Ok leg → Good leg.points
  good_behind v (Err r) leg g ih h = let z : ◌≡◌ {A = ℕ} 0 1 = cc in absurd (omega arith)
  good_behind v (Ok l) leg g ih h = let is : leg ≡ behind v l = cc in rw is (good_cons v.point l.points g (ih l refl))

  leg_good : (e : Ends) (left : ℕ) (s : CurveStation2) (leg : Leg) → s.index < last_vertex ns → leg_from ns tol e left s ≡ Ok leg → Good leg.points
  unfolding leg_from bad_numbers point_numbers
  leg_good e zero s leg on h = let is : leg ≡ record { points = []; over = true } = cc in rw is refl
  leg_good e (suc left) s leg on h = go (turn_of ns tol e s) refl (λ v. leg_good e left v) (sym (leg_by_turn ns tol e left s) ∙ h)
    where
      go : (t : Answer (Option Working)) → turn_of ns tol e s ≡ t → ((v : CurveStation2) (l : Leg) → v.index < last_vertex ns → leg_from ns tol e left v ≡ Ok l → Good l.points) → (t >>= onward ns tol e left) ≡ Ok leg → Good leg.points
      go (Err r) p ih h = let z : ◌≡◌ {A = ℕ} 0 1 = cc in absurd (omega arith)
      go (Ok None) p ih h = let is : leg ≡ record { points = []; over = false } = cc in rw is refl
      go (Ok (Some v)) p ih h =
          let w = went_on ns tol e s v p in
          let on₂ = vertex_on ns tol (s.index + 1) v.station (omega (arith, on)) edges w.at in
          good_behind v.station (leg_from ns tol e left v.station) leg (station_good (s.index + 1) v.station (omega (arith, on)) w.at) (λ l q. ih v.station l on₂ q) h

  front_good : (e : Ends) (ps : List Point2) → from_front ns tol e ≡ Ok ps → Good ps
  unfolding from_front
  front_good e ps h = go (at_vertex ns tol 0) refl h
    where
      then : (front : CurveStation2) (a : Answer Leg) → Good (front.point ∷ []) → ((l : Leg) → a ≡ Ok l → Good l.points) → (a >>= λ leg. Ok (front.point ∷ leg.points)) ≡ Ok ps → Good ps
      then front (Err r) g ih h = let z : ◌≡◌ {A = ℕ} 0 1 = cc in absurd (omega arith)
      then front (Ok l) g ih h = let is : ps ≡ front.point ∷ l.points = cc in rw is (good_cons front.point l.points g (ih l refl))

      go : (f : Answer CurveStation2) → at_vertex ns tol 0 ≡ f → (f >>= λ front. leg_from ns tol e (last_index ns tol) front >>= λ leg. Ok (front.point ∷ leg.points)) ≡ Ok ps → Good ps
      go (Err r) p h = let z : ◌≡◌ {A = ℕ} 0 1 = cc in absurd (omega arith)
      go (Ok front) p h =
          then front (leg_from ns tol e (last_index ns tol) front) (station_good 0 front (omega arith) p)
          (λ l q. leg_good e (last_index ns tol) front l (vertex_on ns tol 0 front (omega arith) edges p) q) h

  walked_good : (e : Ends) (ps : List Point2) → e.start.index < last_vertex ns → walked ns tol e ≡ Ok ps → Good ps
  unfolding walked
  walked_good e ps on h = go (leg_from ns tol e (last_index ns tol - e.start.index) e.start) refl h
    where
      over : (first : Leg) (b : Bool) (f : Answer (List Point2)) → Good first.points → from_front ns tol e ≡ f → cond b (f >>= λ qs. Ok (first.points ++ qs)) (Ok first.points) ≡ Ok ps → Good ps
      over first false f g q h = let is : ps ≡ first.points = cc in rw is g
      over first true (Err r) g q h = let z : ◌≡◌ {A = ℕ} 0 1 = cc in absurd (omega arith)
      over first true (Ok qs) g q h = let is : ps ≡ first.points ++ qs = cc in rw is (good_append first.points qs g (front_good e qs q))

      go : (a : Answer Leg) → leg_from ns tol e (last_index ns tol - e.start.index) e.start ≡ a
          → (a >>= λ first. cond (first.over && wrap e) (from_front ns tol e >>= λ ps. Ok (first.points ++ ps)) (Ok first.points)) ≡ Ok ps → Good ps
      go (Err r) p h = let z : ◌≡◌ {A = ℕ} 0 1 = cc in absurd (omega arith)
      go (Ok first) p h = over first (first.over && wrap e) (from_front ns tol e) (leg_good e (last_index ns tol - e.start.index) e.start first on p) refl h

  between_good : (e : Ends) (ps : List Point2) → e.start.index < last_vertex ns → Good (e.start.point ∷ []) → Good (e.end.point ∷ []) → given_between ns tol e ≡ Ok ps → Good ps
  unfolding given_between
  between_good e ps on g k h = go (walked ns tol e) refl h
    where
      with_end_lem : (qs : List Point2) → Good qs → (b : Bool) → Good (cond b (e.start.point ∷ (qs ++ (e.end.point ∷ []))) (e.start.point ∷ qs))
      with_end_lem qs f true = good_cons e.start.point (qs ++ (e.end.point ∷ [])) g (good_append qs (e.end.point ∷ []) f k)
      with_end_lem qs f false = good_cons e.start.point qs g f

      go : (a : Answer (List Point2)) → walked ns tol e ≡ a → (a >>= λ qs. Ok (with_end tol e.end.point e.start.point qs)) ≡ Ok ps → Good ps
      go (Err r) p h = let z : ◌≡◌ {A = ℕ} 0 1 = cc in absurd (omega arith)
      go (Ok qs) p h = let is : with_end tol e.end.point e.start.point qs ≡ ps = cc in rw (← is) (with_end_lem qs (walked_good e qs on p) (lt tol (plain_dist e.end.point (last_of e.start.point qs))))

-- ---- an open section's walk

-- where the end lies ahead, a leg that could go on doesn't go over the last index
ahead_not-over : (ns : List Float) (tol : Float) (e : Ends) (left : ℕ) (s : CurveStation2) (leg : Leg) → EndAhead ns e s → e.end.index < s.index + left → leg_from ns tol e left s ≡ Ok leg → leg.over ≡ false
ahead_not-over ns tol e zero s leg a h k = absurd (omega (arith, h, a.before))
ahead_not-over ns tol e (suc left) s leg a h k = go (turn_of ns tol e s) refl (λ v. ahead_not-over ns tol e left v) (sym (leg_by_turn ns tol e left s) ∙ k)
  where
    behind-over : (v : CurveStation2) (b : Answer Leg) → ((l : Leg) → b ≡ Ok l → l.over ≡ false) → (b >>= λ l. Ok (behind v l)) ≡ Ok leg → leg.over ≡ false
    behind-over v (Err r) f k = let z : ◌≡◌ {A = ℕ} 0 1 = cc in absurd (omega arith)
    behind-over v (Ok l) f k = let is : leg ≡ behind v l = cc in rw is (f l refl)

    go : (t : Answer (Option Working)) → turn_of ns tol e s ≡ t → ((v : CurveStation2) (l : Leg) → EndAhead ns e v → e.end.index < v.index + left → leg_from ns tol e left v ≡ Ok l → l.over ≡ false)
        → (t >>= onward ns tol e left) ≡ Ok leg → leg.over ≡ false
    go (Err r) p ih k = let z : ◌≡◌ {A = ℕ} 0 1 = cc in absurd (omega arith)
    go (Ok None) p ih k = let is : leg ≡ record { points = []; over = false } = cc in rw is refl
    go (Ok (Some v)) p ih k =
        let on = went_on ns tol e s v p in
        behind-over v.station (leg_from ns tol e left v.station) (λ l q. ih v.station l (still_ahead ns tol e s v on a) (omega (arith, h, (inner ns tol e s v on a).index)) q) k

-- where the end is not reached at the start, it lies on a later edge
later_edge : (ns : List Float) (e : Ends) → le e.from e.to ≡ true → along ns e.start ≡ Ok e.from → reached ns e e.start ≡ Ok false → e.start.index < e.end.index
unfolding reached
later_edge ns e near from off = go (ltb e.end.index (e.start.index + 1)) refl (rw (from, near) at off)
  where
    go : (b : Bool) → ltb e.end.index (e.start.index + 1) ≡ b → ◌≡◌ {A = Answer Bool} (Ok b) (Ok false) → e.start.index < e.end.index
    go true p h = let z : ◌≡◌ {A = ℕ} 0 1 = cc in absurd (omega arith)
    go false p h = omega (arith, ltb-false e.end.index (e.start.index + 1) p)

-- The walk of an open section ends before it comes to the last vertex, where the source would stay.
pub open_ends : (ns : List Float) (tol l0 l1 : Float) (e : Ends) (leg : Leg) → IsSection ns tol → fits binary64 l0 ≡ true → fits binary64 l1 ≡ true → ends_of ns tol l0 l1 ≡ Ok e
    → is_closed ns tol ≡ false → is_empty ns tol l0 l1 e ≡ false → leg_from ns tol e (last_index ns tol - e.start.index) e.start ≡ Ok leg → leg.over ≡ false
open_ends ns tol l0 l1 e leg sec fit0 fit1 found opened empty k =
    let are = ends_are ns tol l0 l1 e found in
    let w = given_walkable ns tol l0 l1 e found sec fit0 fit1 empty in
    let last : last_index ns tol ≡ last_vertex ns = rw opened in
    let left = last_vertex ns - e.start.index - 1 in
    let more : last_index ns tol - e.start.index ≡ suc left = omega (arith, last, w.start) in
    go w (start_first ns tol l0 l1 e sec (rw fit0 tt) (rw fit1 tt) are (in_order (is_closed ns tol) opened (or_right (is_within tol (l1 -f l0)) (not (is_closed ns tol) && wrap e) empty))) are.from left (omega (arith, w.start)) (turn_of ns tol e e.start) refl
    (sym (leg_by_turn ns tol e left e.start) ∙ (rw more at k))
  where
    in_order : (b : Bool) → b ≡ false → (not b && wrap e) ≡ false → wrap e ≡ false
    in_order false p h = h
    in_order true p h = absurd (true≢false p)

    behind-over : (v : CurveStation2) (b : Answer Leg) → ((l : Leg) → b ≡ Ok l → l.over ≡ false) → (b >>= λ l. Ok (behind v l)) ≡ Ok leg → leg.over ≡ false
    behind-over v (Err r) f k = let z : ◌≡◌ {A = ℕ} 0 1 = cc in absurd (omega arith)
    behind-over v (Ok l) f k = let is : leg ≡ behind v l = cc in rw is (f l refl)

    go : Walkable ns tol e → le e.from e.to ≡ true → along ns e.start ≡ Ok e.from → (left : ℕ) → e.start.index + 1 + left ≡ last_vertex ns → (t : Answer (Option Working)) → turn_of ns tol e e.start ≡ t
        → (t >>= onward ns tol e left) ≡ Ok leg → leg.over ≡ false
    go w near from left h (Err r) p k = let z : ◌≡◌ {A = ℕ} 0 1 = cc in absurd (omega arith)
    go w near from left h (Ok None) p k = let is : leg ≡ record { points = []; over = false } = cc in rw is refl
    go w near from left h (Ok (Some v)) p k =
        let on = went_on ns tol e e.start v p in
        let less = later_edge ns e near from on.not_reached in
        let i = at_inner ns tol (e.start.index + 1) v.station (λ z. omega (arith, z, less, w.end)) on.at in
        let a : EndAhead ns e v.station = record { vertex = i.fraction; before = omega (arith, i.index, less); end = w.end; stops = w.stops } in
        behind-over v.station (leg_from ns tol e left v.station) (λ l q. ahead_not-over ns tol e left v.station l a (omega (arith, i.index, h, w.end)) q) k

-- ---- the steps to a piece

pub record Given (ns : List Float) (tol l0 l1 : Float) (ps : List Point2) : Type 0 where
  pub ends : Ends
  pub found : ends_of ns tol l0 l1 ≡ Ok ends
  pub between : given_between ns tol ends ≡ Ok ps
  pub enough : ltb (length (kept tol ps)) 2 ≡ false

given_steps : (ns : List Float) (tol l0 l1 : Float) (ps : List Point2) → given_of ns tol l0 l1 ≡ Ok ps → Given ns tol l0 l1 ps
unfolding given_of
given_steps ns tol l0 l1 ps h = go (ends_of ns tol l0 l1) refl h
  where
    few : (e : Ends) (qs : List Point2) (b : Bool) → ends_of ns tol l0 l1 ≡ Ok e → given_between ns tol e ≡ Ok qs → ltb (length (kept tol qs)) 2 ≡ b → cond b (Err EmptyStretch) (Ok qs) ≡ Ok ps
        → Given ns tol l0 l1 ps
    few e qs true p q f h = let z : ◌≡◌ {A = ℕ} 0 1 = cc in absurd (omega arith)
    few e qs false p q f h = let is : qs ≡ ps = cc in record { ends = e; found = p; between = q ∙ ap Ok is; enough = rw (← is) f }

    put : (e : Ends) (a : Answer (List Point2)) → ends_of ns tol l0 l1 ≡ Ok e → given_between ns tol e ≡ a → (a >>= or_too_few tol) ≡ Ok ps → Given ns tol l0 l1 ps
    put e (Err r) p q h = let z : ◌≡◌ {A = ℕ} 0 1 = cc in absurd (omega arith)
    put e (Ok qs) p q h = few e qs (ltb (length (kept tol qs)) 2) p q refl h

    empty : (e : Ends) (b : Bool) → ends_of ns tol l0 l1 ≡ Ok e → cond b (Err EmptyStretch) (given_between ns tol e >>= or_too_few tol) ≡ Ok ps → Given ns tol l0 l1 ps
    empty e true p h = let z : ◌≡◌ {A = ℕ} 0 1 = cc in absurd (omega arith)
    empty e false p h = put e (given_between ns tol e) p refl h

    go : (a : Answer Ends) → ends_of ns tol l0 l1 ≡ a → (a >>= λ e. cond (is_empty ns tol l0 l1 e) (Err EmptyStretch) (given_between ns tol e >>= or_too_few tol)) ≡ Ok ps → Given ns tol l0 l1 ps
    go (Err r) p h = let z : ◌≡◌ {A = ℕ} 0 1 = cc in absurd (omega arith)
    go (Ok e) p h = empty e (is_empty ns tol l0 l1 e) p h

-- ---- what holds of a piece

-- The points at both ends are worked out: rounding may carry a coordinate of one over 1,000,000. Where it doesn't, the piece is a curve as `from_points` gives it.
abbrev pub InRange : List Float → Float → Float → Float → Type 0
InRange ns tol l0 l1 = (e : Ends) → ends_of ns tol l0 l1 ≡ Ok e → (bad_numbers (point_numbers (e.start.point ∷ [])) ≡ false) × (bad_numbers (point_numbers (e.end.point ∷ [])) ≡ false)

pub record Holds (ns : List Float) (tol l0 l1 : Float) (room : ℕ) (s : Stretch) : Type 0 where
  -- the walk gave one point more than the section has, at most
  pub given : s.given ≤ length ns / 2 + 1
  -- the piece fits its output
  pub fits : 2 * length s.points ≤ room
  -- and passes the entry tests that a cleaned curve passes: 1, 3, and 6 as far as neighbouring points go; 2 where the ends are in range
  pub count : bad_count most_points (length (point_numbers s.points)) ≡ false
  pub tolerance : bad_tolerance tol ≡ false
  pub apart : crowded tol s.points ≡ false
  pub curve : InRange ns tol l0 l1 → IsCurve s.points tol

kept-most : (tol : Float) (ps : List Point2) → length (kept tol ps) ≤ length ps
unfolding kept
kept-most tol [] = omega arith
kept-most tol (p ∷ ps) = omega (arith, kept-count tol p ps)

module _ (ns : List Float) (tol l0 l1 : Float) (room : ℕ) (cut : IsCuttable ns tol room)
    (fit0 : fits binary64 l0 ≡ true) (fit1 : fits binary64 l1 ≡ true) where
  from_points : (ps : List Point2) → given_of ns tol l0 l1 ≡ Ok ps → Holds ns tol l0 l1 room (cleaned_stretch tol ps)
  from_points ps h =
      let g = given_steps ns tol l0 l1 ps h in
      let n = given-count ns tol l0 l1 ps cut.section fit0 fit1 h in
      let k = kept-most tol ps in
      let two = ltb-false (length (kept tol ps)) 2 g.enough in
      let numbers = numbers-length (kept tol ps) in
      let count : bad_count most_points (length (point_numbers (kept tol ps))) ≡ false = rw numbers (count_passes most_points (2 * length (kept tol ps)) (omega arith) (omega (arith, two)) (omega (arith, n, k, cut.most))) in
      let on = spot_on ns l0 g.ends.start (spot ns tol l0 g.ends.start cut.section (ends_are ns tol l0 l1 g.ends g.found).start) in
      record {
        given = omega (arith, n);
        fits = omega (arith, n, k, cut.fits);
        count = count;
        tolerance = cut.section.tolerance;
        apart = whole_apart tol ps;
        curve = λ range. record {
          count = count;
          numbers = good_whole tol ps (between_good ns tol cut.section g.ends ps on (range g.ends g.found).0 (range g.ends g.found).1 g.between);
          tolerance = cut.section.tolerance;
          points = points-numbers (kept tol ps);
          apart = whole_apart tol ps;
        };
      }

  pub stretch_holds : (s : Stretch) → stretch_of ns tol l0 l1 ≡ Ok s → Holds ns tol l0 l1 room s
  unfolding stretch_of
  stretch_holds s h = go (given_of ns tol l0 l1) refl h
    where
      go : (a : Answer (List Point2)) → given_of ns tol l0 l1 ≡ a → (a >>= λ ps. Ok (cleaned_stretch tol ps)) ≡ Ok s → Holds ns tol l0 l1 room s
      go (Err r) p h = let z : ◌≡◌ {A = ℕ} 0 1 = cc in absurd (omega arith)
      go (Ok ps) p h = let is : cleaned_stretch tol ps ≡ s = cc in rw (← is) (from_points ps p)

-- ---- of every result of an entry point

-- where the tests passed, what came after them is the answer
after_tests : {A : Type 0} (a : Answer (Unit {0})) (b : Answer A) (x : A) → (a >>= λ passed. b) ≡ Ok x → (a ≡ Ok tt) × (b ≡ Ok x)
after_tests (Ok tt) b x e = (refl, e)
after_tests (Err r) b x e = let z : ◌≡◌ {A = ℕ} 0 1 = cc in absurd (omega arith)

pub between-holds : (ns : List Float) (tol l0 l1 : Float) (room : ℕ) (s : Stretch) → fits binary64 l0 ≡ true → fits binary64 l1 ≡ true → between_lengths ns tol l0 l1 room ≡ Ok s → Holds ns tol l0 l1 room s
unfolding between_lengths
between-holds ns tol l0 l1 room s fit0 fit1 h =
    let p = after_tests (stretch_entry ns tol (finite l0 && finite l1) (is_short ns room)) (stretch_of ns tol l0 l1) s h in
    stretch_holds ns tol l0 l1 room (cuttable ns tol (finite l0 && finite l1) room p.0) fit0 fit1 s p.1

-- both pieces of a split
both_are : (a b : Answer Stretch) (h : Halves) → both_of a b ≡ Ok h → (a ≡ Ok h.first) × (b ≡ Ok h.second)
both_are (Err r) b h e = let z : ◌≡◌ {A = ℕ} 0 1 = cc in absurd (omega arith)
both_are (Ok s) (Err r) h e = let z : ◌≡◌ {A = ℕ} 0 1 = cc in absurd (omega arith)
both_are (Ok s) (Ok t) h e = let is : record { first = s; second = t } ≡ h = cc in rw (← is) (refl, refl)

-- the whole length is a number of the format
last_fits : (l m : Float) (ps : List Point2) → T (fits binary64 l) → T (fits binary64 m) → T (fits binary64 (last_of l (lengths_from m ps)))
unfolding last_of lengths_from
last_fits l m [] f g = f
last_fits l m (p ∷ []) f g = g
last_fits l m (p ∷ (q ∷ ps)) f g = last_fits m (plain_dist q p +f m) (q ∷ ps) g (add-fits binary64 (plain_dist q p) m)

whole_fits : (ns : List Float) → fits binary64 (whole_length ns) ≡ true
unfolding whole_length lengths_of
whole_fits ns = is_true (fits binary64 (last_of f0 (lengths_from f0 (points_of ns)))) (last_fits f0 f0 (points_of ns) f0-fits f0-fits)

pub split_open-holds : (ns : List Float) (tol l : Float) (room0 room1 : ℕ) (h : Halves) → fits binary64 l ≡ true → split_open ns tol l room0 room1 ≡ Ok h
    → Holds ns tol f0 l room0 h.first × Holds ns tol l (whole_length ns) room1 h.second
unfolding split_open
split_open-holds ns tol l room0 room1 h fit e =
    let both = both_of (stretch_of ns tol f0 l) (stretch_of ns tol l (whole_length ns)) in
    let p = after_tests (stretch_entry ns tol (finite l) (is_short ns room0 || is_short ns room1)) (cond (is_closed ns tol) (Err WrongKind) both) h e in
    let r = two_cuttable ns tol room0 room1 (finite l) p.0 in
    let q = both_are (stretch_of ns tol f0 l) (stretch_of ns tol l (whole_length ns)) h (passed_by (is_closed ns tol) WrongKind both h p.1).1 in (
      stretch_holds ns tol f0 l room0 r.0 (is_true (fits binary64 f0) f0-fits) fit h.first q.0,
      stretch_holds ns tol l (whole_length ns) room1 r.1 fit (whole_fits ns) h.second q.1,
    )

pub split_closed-holds : (ns : List Float) (tol l0 l1 : Float) (room0 room1 : ℕ) (h : Halves) → fits binary64 l0 ≡ true → fits binary64 l1 ≡ true → split_closed ns tol l0 l1 room0 room1 ≡ Ok h
    → Holds ns tol l0 l1 room0 h.first × Holds ns tol l1 l0 room1 h.second
unfolding split_closed
split_closed-holds ns tol l0 l1 room0 room1 h fit0 fit1 e =
    let both = both_of (stretch_of ns tol l0 l1) (stretch_of ns tol l1 l0) in
    let p = after_tests (stretch_entry ns tol (finite l0 && finite l1) (is_short ns room0 || is_short ns room1)) (cond (is_closed ns tol) both (Err WrongKind)) h e in
    let r = two_cuttable ns tol room0 room1 (finite l0 && finite l1) p.0 in
    let q = both_are (stretch_of ns tol l0 l1) (stretch_of ns tol l1 l0) h (passed_on (is_closed ns tol) WrongKind both h p.1).1 in (
      stretch_holds ns tol l0 l1 room0 r.0 fit0 fit1 h.first q.0,
      stretch_holds ns tol l1 l0 room1 r.1 fit1 fit0 h.second q.1,
    )
