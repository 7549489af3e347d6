-- Laws of a section's numbers and points. Assumes nothing.
use mathlib.Core.Path.{◌≡◌, refl, sym, ◌∙◌}
use mathlib.Core.Bool.{Bool, true, false, not, ◌||◌, cond}
use mathlib.Core.List.{List, [], ◌∷◌}
use Prim.Native.Nat.{ℕ, suc, ◌+◌, ◌-◌, ◌/◌, ◌%◌, ◌≤◌, ◌<◌}
use native.Mathlib.Numerals.{add-one, add-two}
use native.Mathlib.Omega.{arith}
use borrow.Author.Tests.{eqb-true, ltb-false, not-false}
use lib.Dec.{eqb, ltb, lit≤}
use lib.ListN.{length, drop, drop_of_length-le}
use lib.Seq.{drop-cons}
use lib.Ieee.{Float, nan, le}
use Rattle.std.specs.Prelude.{Ok, Err}
use Rattle.errors.specs.Answer.{Answer, passed}
use Rattle.errors.specs.Lists.{last_of}
use Rattle.points.specs.Numbers.{◌+f◌}
use Rattle.points.specs.declared.Point2.{Point2}
use Rattle.curve2.specs.Section.{point, points_of, point_at, plain_dist, ends_meet, lengths_from, whole_length}
use Rattle.curve2.specs.Entry.{tested, most_points, bad_count, bad_numbers, bad_tolerance, section_tests, section_entry, HasPoints, IsSection}
use Rattle.curve2.specs.declared.AlsoBad.{AlsoBad}
use Rattle.errors.specs.declared.Refusal.{Refusal}

-- two numbers make the next point
pub points_step : (ns : List Float) (i : ℕ) → i + 1 < length ns → points_of (drop i ns) ≡ point_at ns i ∷ points_of (drop (i + 2) ns)
unfolding points_of
points_step ns i h =
    let a : i < length ns = omega arith in
    let b : suc i < length ns = omega arith in
    rw (drop-cons ns i nan a, drop-cons ns (suc i) nan b, add-one i, add-two i)

-- none is left
pub points-end : (ns : List Float) (i : ℕ) → length ns ≤ i → points_of (drop i ns) ≡ []
unfolding points_of
points-end ns i h = rw (drop_of_length-le ns h)

-- two numbers to a point
pub length-points : (ns : List Float) → length (points_of ns) ≡ length ns / 2
unfolding points_of
length-points [] = refl
length-points (x ∷ []) = refl
length-points (x ∷ (y ∷ ns)) = omega (arith, length-points ns)

-- the last point of x, y and more numbers
last_at : (x y : Float) (ns : List Float) → length ns % 2 ≡ 0 → last_of (point x y) (points_of ns) ≡ point_at (x ∷ (y ∷ ns)) (length ns)
unfolding last_of points_of
last_at x y [] h = refl
last_at x y (a ∷ []) h = absurd (omega arith)
last_at x y (a ∷ (b ∷ ns)) h = rw (last_at a b ns (omega arith), add-one (length ns), add-one (suc (suc (length ns))))

-- the ends by their numbers
pub ends_at : (tol : Float) (ns : List Float) → length ns % 2 ≡ 0 → 2 ≤ length ns → le (plain_dist (point_at ns 0) (point_at ns (length ns - 2))) tol ≡ ends_meet tol (points_of ns)
unfolding ends_meet points_of
ends_at tol [] h l = absurd (omega arith)
ends_at tol (x ∷ []) h l = absurd (omega arith)
ends_at tol (x ∷ (y ∷ ns)) h l =
    let e : length (x ∷ (y ∷ ns)) - 2 ≡ length ns = omega arith in
    rw (last_at x y ns (omega arith), e)

-- ---- the length of the whole, edge by edge

-- the last of the lengths from q on, where q has length m
last_from : (l m : Float) (q : Point2) (ps : List Point2) → last_of m (lengths_from m (q ∷ ps)) ≡ last_of l (lengths_from m (q ∷ ps))
unfolding last_of lengths_from
last_from l m q [] = refl
last_from l m q (p ∷ ps) = refl

-- what is left, from the point at i on, which has length l
abbrev pub whole_from : Float → List Point2 → Float
whole_from l ps = last_of l (lengths_from l ps)

module _ (ns : List Float) (i : ℕ) (l : Float) (inv : whole_from l (points_of (drop i ns)) ≡ whole_length ns) where
  pub length_step : i + 3 < length ns → (d : Float) → d ≡ plain_dist (point_at ns (i + 2)) (point_at ns i) → whole_from (d +f l) (points_of (drop (i + 2) ns)) ≡ whole_length ns
  unfolding last_of lengths_from
  length_step fits d e =
      rw (e, points_step ns (i + 2) (omega arith))
      (last_from l (plain_dist (point_at ns (i + 2)) (point_at ns i) +f l) (point_at ns (i + 2)) (points_of (drop (i + 2 + 2) ns))
      ∙ (rw (points_step ns i (omega arith), points_step ns (i + 2) (omega arith)) at inv))

  pub length-end : i + 2 ≡ length ns → l ≡ whole_length ns
  unfolding last_of lengths_from
  length-end h = rw (points_step ns i (omega arith), points-end ns (i + 2) (omega arith)) at inv

-- ---- what passing the entry tests tells

pub or_left : (a b : Bool) → (a || b) ≡ false → a ≡ false
or_left false b e = refl
or_left true b e = e

pub or_right : (a b : Bool) → (a || b) ≡ false → b ≡ false
or_right false b e = e
or_right true b e = cc

-- none of the tests failed
abbrev pub NoneBad : List (Refusal × Bool) → Type 0
NoneBad [] = Unit {0}
NoneBad (t ∷ ts) = (t.1 ≡ false) × NoneBad ts

pub none_bad : (ts : List (Refusal × Bool)) → tested ts ≡ Ok tt → NoneBad ts
none_bad [] e = tt
none_bad (t ∷ ts) e = go t.1 (none_bad ts) e
  where
    go : (b : Bool) → (tested ts ≡ Ok tt → NoneBad ts) → cond b (Err t.0) (tested ts) ≡ Ok tt → (b ≡ false) × NoneBad ts
    go false k p = (refl, k p)
    go true k p = let z : ◌≡◌ {A = ℕ} 0 1 = cc in absurd (omega arith)

pub count-even : (most n : ℕ) → bad_count most n ≡ false → n % 2 ≡ 0
count-even most n e = eqb-true (n % 2) 0 (not-false (eqb (n % 2) 0) (or_left _ _ e))

pub count_least : (most n : ℕ) → bad_count most n ≡ false → 4 ≤ n
count_least most n e = omega (arith, ltb-false (n / 2) 2 (or_left _ _ (or_right (not (eqb (n % 2) 0)) _ e)))

pub count_most : (most n : ℕ) → bad_count most n ≡ false → n ≤ most + most
count_most most n e = omega (arith, count-even most n e, ltb-false most (n / 2) (or_right (ltb (n / 2) 2) _ (or_right (not (eqb (n % 2) 0)) _ e)))

pub has_points : (ns : List Float) (most : ℕ) → most ≤ most_points → bad_count most (length ns) ≡ false → HasPoints ns
has_points ns most h e = record {
  even = count-even most (length ns) e;
  least = count_least most (length ns) e;
  most = omega (arith, count_most most (length ns) e);
}

module _ (ns : List Float) (tol : Float) (also : AlsoBad) (e : section_entry ns tol also ≡ Ok tt) where
  none : NoneBad (section_tests ns tol also)
  unfolding section_entry
  none = none_bad (section_tests ns tol also) e

  pub entry_passed : IsSection ns tol
  entry_passed = record {
    points = has_points ns most_points (lit≤ tt) none.0;
    numbers = or_left (bad_numbers ns) _ none.1.0;
    tolerance = or_left (bad_tolerance tol) _ none.1.1.0;
    spaced = none.1.1.1.1.1.1.0;
  }

  -- and of the other arguments
  pub entry_room : also.room ≡ false
  entry_room = none.1.1.1.1.0

-- the same of a section that was lent on, by the two facts that its call ensures
module _ {A : Type 0} (ns : List Float) (tol : Float) (also : AlsoBad) (r : Answer A) (s : A) (is : passed r ≡ section_entry ns tol also) (e : r ≡ Ok s) where
  pub lent_room : also.room ≡ false
  lent_room = entry_room ns tol also (sym (rw e at is))
