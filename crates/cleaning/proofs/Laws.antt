-- A cleaned curve, handed in as a section: what `from_points` gives passes the entry tests but for lengths that don't rise. Assumes nothing.
use mathlib.Core.Path.{◌≡◌, refl, sym, ◌∙◌}
use mathlib.Core.Bool.{Bool, true, false, not, ◌||◌, cond}
use mathlib.Core.List.{List, [], ◌∷◌, ◌++◌}
use Prim.Native.Nat.{ℕ, ◌+◌, ◌*◌, ◌/◌, ◌%◌, ◌≤◌}
use native.Mathlib.Omega.{arith}
use borrow.Author.Tests.{eq-eqb, le-ltb, ltb-false}
use lib.Dec.{ltb, lit≤}
use lib.ListN.{length}
use lib.Ieee.{Float, le}
use Rattle.std.specs.Prelude.{Ok, Err}
use Rattle.errors.specs.Answer.{Answer, ◌>>=◌}
use Rattle.errors.specs.Lists.{last_of}
use Rattle.points.specs.declared.Point2.{Point2}
use Rattle.curve2.specs.Section.{points_of, plain_dist, ends_meet, lengths_of}
use Rattle.curve2.specs.Entry.{most_points, bad_count, in_range, bad_numbers, bad_tolerance, crowded, not_rising, IsSection}
use Rattle.curve2.proofs.Laws.{none_bad, count-even, count_least, count_most, has_points}
use Rattle.cleaning.specs.Cleaning.{kept, kept_after, point_numbers, forced_closed, closing, curve_of, most_cleaned, cleaning_entry, cleaned}
use Rattle.cleaning.proofs.Numbers.{numbers-length, numbers-points, points-numbers}
use Rattle.cleaning.proofs.Made.{closing-count, kept-most}
use Rattle.errors.specs.declared.Refusal.TheVariants.{BadNumber, NoRoom, PointCount, Tolerance, TooFewKept}

-- It passes the entry tests 1 to 3, and 6 as far as neighbouring points go.
pub record IsCurve (ps : List Point2) (tol : Float) : Type 0 where
  pub count : bad_count most_points (length (point_numbers ps)) ≡ false
  pub numbers : bad_numbers (point_numbers ps) ≡ false
  pub tolerance : bad_tolerance tol ≡ false
  pub points : points_of (point_numbers ps) ≡ ps
  pub apart : crowded tol ps ≡ false

pub neither : (a b : Bool) → (a || b) ≡ false → (a ≡ false) × (b ≡ false)
neither false b e = (refl, e)
neither true b e = let z : ◌≡◌ {A = ℕ} 0 1 = cc in absurd (omega arith)

-- ---- neighbours are apart

kept_apart : (tol : Float) (p : Point2) (qs : List Point2) → crowded tol (p ∷ kept_after tol p qs) ≡ false
unfolding crowded kept_after
kept_apart tol p [] = refl
kept_apart tol p (q ∷ qs) = go (le (plain_dist q p) tol) refl (kept_apart tol p qs) (kept_apart tol q qs)
  where
    go : (b : Bool) → le (plain_dist q p) tol ≡ b → crowded tol (p ∷ kept_after tol p qs) ≡ false → crowded tol (q ∷ kept_after tol q qs) ≡ false → crowded tol (p ∷ kept_after tol p (q ∷ qs)) ≡ false
    go true e before after = rw e before
    go false e before after = rw e (rw e after)

snoc_apart : (tol : Float) (p : Point2) (ps : List Point2) (s : Point2) → crowded tol (p ∷ ps) ≡ false → le (plain_dist s (last_of p ps)) tol ≡ false → crowded tol (p ∷ (ps ++ (s ∷ []))) ≡ false
unfolding crowded last_of
snoc_apart tol p [] s e f = rw f
snoc_apart tol p (q ∷ ps) s e f = let n = neither (le (plain_dist q p) tol) (crowded tol (q ∷ ps)) e in rw n.0 (snoc_apart tol q ps s n.1 f)

closing_apart : (tol : Float) (forced : Bool) (ps : List Point2) → crowded tol ps ≡ false → crowded tol (closing tol forced ps) ≡ false
unfolding forced_closed ends_meet
closing_apart tol false ps e = e
closing_apart tol true [] e = e
closing_apart tol true (p ∷ ps) e = go (ends_meet tol (p ∷ ps)) refl
  where
    go : (b : Bool) → ends_meet tol (p ∷ ps) ≡ b → crowded tol (forced_closed tol (p ∷ ps)) ≡ false
    go true f = rw f e
    go false f = rw f (snoc_apart tol p ps p e f)

-- ---- its numbers are those of the points handed in

-- point by point
pub bad_point_lem : (p : Point2) (ps : List Point2) → bad_numbers (point_numbers (p ∷ ps)) ≡ (bad_numbers (point_numbers (p ∷ [])) || bad_numbers (point_numbers ps))
unfolding bad_numbers point_numbers
bad_point_lem p ps = go (in_range p.x) (in_range p.y)
  where
    go : (a b : Bool) → (not a || (not b || bad_numbers (point_numbers ps))) ≡ ((not a || (not b || false)) || bad_numbers (point_numbers ps))
    go true true = refl
    go true false = refl
    go false b = refl

good_kept : (tol : Float) (p : Point2) (qs : List Point2) → bad_numbers (point_numbers qs) ≡ false → bad_numbers (point_numbers (kept_after tol p qs)) ≡ false
unfolding kept_after
good_kept tol p [] h = h
good_kept tol p (q ∷ qs) h =
    let n = neither (bad_numbers (point_numbers (q ∷ []))) (bad_numbers (point_numbers qs)) (sym (bad_point_lem q qs) ∙ h) in
    go n.0 (le (plain_dist q p) tol) refl (good_kept tol p qs n.1) (good_kept tol q qs n.1)
  where
    go : bad_numbers (point_numbers (q ∷ [])) ≡ false → (b : Bool) → le (plain_dist q p) tol ≡ b → bad_numbers (point_numbers (kept_after tol p qs)) ≡ false → bad_numbers (point_numbers (kept_after tol q qs)) ≡ false
        → bad_numbers (point_numbers (kept_after tol p (q ∷ qs))) ≡ false
    go g true e before after = rw e before
    go g false e before after = rw (e, bad_point_lem, g) after

good_snoc : (ps : List Point2) (p : Point2) → bad_numbers (point_numbers ps) ≡ false → bad_numbers (point_numbers (p ∷ [])) ≡ false → bad_numbers (point_numbers (ps ++ (p ∷ []))) ≡ false
good_snoc [] p h g = g
good_snoc (q ∷ ps) p h g =
    let n = neither (bad_numbers (point_numbers (q ∷ []))) (bad_numbers (point_numbers ps)) (sym (bad_point_lem q ps) ∙ h) in
    bad_point_lem q (ps ++ (p ∷ [])) ∙ rw n.0 (good_snoc ps p n.1 g)

good_closing : (tol : Float) (forced : Bool) (ps : List Point2) → bad_numbers (point_numbers ps) ≡ false → bad_numbers (point_numbers (closing tol forced ps)) ≡ false
unfolding forced_closed
good_closing tol false ps h = h
good_closing tol true [] h = h
good_closing tol true (p ∷ ps) h = go (ends_meet tol (p ∷ ps)) refl (neither (bad_numbers (point_numbers (p ∷ []))) (bad_numbers (point_numbers ps)) (sym (bad_point_lem p ps) ∙ h)).0
  where
    go : (b : Bool) → ends_meet tol (p ∷ ps) ≡ b → bad_numbers (point_numbers (p ∷ [])) ≡ false → bad_numbers (point_numbers (forced_closed tol (p ∷ ps))) ≡ false
    go true f g = rw f h
    go false f g = rw f (good_snoc (p ∷ ps) p h g)

pub good_whole : (tol : Float) (ps : List Point2) → bad_numbers (point_numbers ps) ≡ false → bad_numbers (point_numbers (kept tol ps)) ≡ false
unfolding kept
good_whole tol [] h = h
good_whole tol (p ∷ ps) h =
    let n = neither (bad_numbers (point_numbers (p ∷ []))) (bad_numbers (point_numbers ps)) (sym (bad_point_lem p ps) ∙ h) in
    bad_point_lem p (kept_after tol p ps) ∙ rw n.0 (good_kept tol p ps n.1)

-- ---- a curve that cleaning made

pub whole_apart : (tol : Float) (ps : List Point2) → crowded tol (kept tol ps) ≡ false
unfolding kept crowded
whole_apart tol [] = refl
whole_apart tol (p ∷ ps) = kept_apart tol p ps

pub count_passes : (most n : ℕ) → n % 2 ≡ 0 → 4 ≤ n → n ≤ most + most → bad_count most n ≡ false
count_passes most n even least h = rw (eq-eqb _ _ even, le-ltb (n / 2) 2 (omega arith), le-ltb most (n / 2) (omega arith))

module _ (ns : List Float) (tol : Float) (forced : Bool) (count : bad_count most_cleaned (length ns) ≡ false) (numbers : bad_numbers ns ≡ false) (tolerance : bad_tolerance tol ≡ false)
    (enough : ltb (length (kept tol (points_of ns))) 2 ≡ false) where
  abbrev ps : List Point2
  ps = closing tol forced (kept tol (points_of ns))

  curve_count : bad_count most_points (length (point_numbers ps)) ≡ false
  curve_count =
      let even = count-even most_cleaned (length ns) count in
      let least = count_least most_cleaned (length ns) count in
      let most = count_most most_cleaned (length ns) count in
      let two = ltb-false (length (kept tol (points_of ns))) 2 enough in
      let more = closing-count tol forced (kept tol (points_of ns)) in
      let fits = kept-most tol ns even (omega arith) in
      rw (numbers-length ps) (count_passes most_points (2 * length ps) (omega arith) (omega arith) (omega arith))

  curve_apart : crowded tol ps ≡ false
  curve_apart = closing_apart tol forced _ (whole_apart tol (points_of ns))

  curve_made : IsCurve ps tol
  curve_made =
      record {
        count = curve_count;
        numbers = good_closing tol forced _ (good_whole tol (points_of ns) (rw (numbers-points ns (count-even most_cleaned (length ns) count)) numbers));
        tolerance = tolerance;
        points = points-numbers ps;
        apart = curve_apart;
      }

-- where the tests passed, what came after them is the answer
tests_first : (a : Answer (Unit {0})) (b : Answer (List Point2)) (ps : List Point2) → (a >>= λ passed. b) ≡ Ok ps → (a ≡ Ok tt) × (b ≡ Ok ps)
tests_first (Ok tt) b ps e = (refl, e)
tests_first (Err n) b ps e = let z : ◌≡◌ {A = ℕ} 0 1 = cc in absurd (omega arith)

two-kept : (few : Bool) (qs ps : List Point2) → cond few (Err TooFewKept) (Ok qs) ≡ Ok ps → (few ≡ false) × (qs ≡ ps)
two-kept false qs ps e = (refl, cc)
two-kept true qs ps e = let z : ◌≡◌ {A = ℕ} 0 1 = cc in absurd (omega arith)

pub cleaned_curve : (ns : List Float) (tol : Float) (forced : Bool) (room : ℕ) (ps : List Point2) → cleaned ns tol forced room ≡ Ok ps → IsCurve ps tol
unfolding cleaned curve_of
cleaned_curve ns tol forced room ps e =
    let whole = kept tol (points_of ns) in
    let first = tests_first (cleaning_entry ns tol room) (curve_of tol forced (points_of ns)) ps e in
    let then = two-kept (ltb (length whole) 2) (closing tol forced whole) ps first.1 in
    let passed = none_bad ((PointCount, bad_count most_cleaned (length ns)) ∷ ((BadNumber, bad_numbers ns) ∷ ((Tolerance, bad_tolerance tol) ∷ ((NoRoom, ltb room (length ns + 2)) ∷ [])))) first.0 in
    rw then.1 at (curve_made ns tol forced passed.0 passed.1.0 passed.1.1.0 then.0)

-- so its lengths alone are left to be tested
pub curve_section : (ps : List Point2) (tol : Float) → IsCurve ps tol → not_rising (lengths_of ps) ≡ false → IsSection (point_numbers ps) tol
curve_section ps tol c rising =
    record {
      points = has_points (point_numbers ps) most_points (lit≤ tt) c.count;
      numbers = c.numbers;
      tolerance = c.tolerance;
      spaced = rw (c.points, c.apart) rising;
    }
