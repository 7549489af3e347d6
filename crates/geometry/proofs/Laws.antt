-- The centres of a store one after the other: where they are put before they are cleaned. Assumes nothing.
use mathlib.Core.Path.{◌≡◌, sym, ap, ◌∙◌}
use mathlib.Core.List.{List, [], ◌∷◌, ◌++◌, map, append_assoc, append-nil}
use Prim.Native.Nat.{ℕ, suc, ◌+◌, ◌-◌, ◌*◌, ◌≤◌, ◌<◌}
use native.Mathlib.Numerals.{add-one}
use native.Mathlib.Omega.{arith}
use lib.ListN.{length, take, length-append, length-map}
use lib.Ieee.{Float}
use Rattle.points.specs.declared.Point2.{Point2}
use Rattle.curve2.specs.Section.{points_of}
use Rattle.cleaning.specs.Cleaning.{point_numbers, placed}
use Rattle.cleaning.specs.Code.{put}
use Rattle.cleaning.proofs.Numbers.{points-numbers}
use Rattle.cleaning.proofs.HeldLaws.{put-holding}
use Rattle.cleaning.proofs.Made.{held-output, first_numbers}
use Rattle.inscribed.specs.Circles.{center}
use Rattle.inscribed.specs.Store.{circle_at, circles_from, circles_of}
use Rattle.inscribed.proofs.StoreLaws.{length-circles}
use Rattle.geometry.specs.Camber.{centers}
use Rattle.geometry.specs.Code.{put_all}

-- ---- points put one after the other

put_all_lem : (ps qs : List Point2) (old : List Float) → 2 * (length ps + length qs) ≤ length old → put_all (length ps) qs (placed ps old) ≡ placed (ps ++ qs) old
unfolding put_all
put_all_lem ps [] old h = rw (append-nil ps)
put_all_lem ps (q ∷ qs) old h =
    let one : (put (length ps) q (placed ps old)).output ≡ placed (ps ++ (q ∷ [])) old = held-output old (ps ++ (q ∷ [])) _ (put-holding old ps q (omega arith)) in
    let long : length ps + 1 ≡ length (ps ++ (q ∷ [])) = sym (length-append ps (q ∷ [])) in
    rw (one, long) (put_all_lem (ps ++ (q ∷ [])) qs old (omega (arith, long)) ∙ ap (λ (l : List Point2). placed l old) (append_assoc ps (q ∷ []) qs))

put_first : (qs : List Point2) (old : List Float) → 2 * length qs ≤ length old → put_all 0 qs old ≡ placed qs old
unfolding point_numbers
put_first qs old h = put_all_lem [] qs old (omega arith)

-- between two others
module _ (p q : Point2) (qs : List Point2) (old a b d : List Float) (first : a ≡ (put 0 p old).output) (more : b ≡ put_all 1 qs a) (last : d ≡ (put (1 + length qs) q b).output)
    (room : 2 * (length qs + 2) ≤ length old) where
  first_is : a ≡ placed (p ∷ []) old
  unfolding point_numbers
  first_is = first ∙ held-output old (p ∷ []) _ (put-holding old [] p (omega arith))

  more_is : b ≡ placed (p ∷ qs) old
  more_is = more ∙ rw first_is (put_all_lem (p ∷ []) qs old (omega arith))

  put-between : d ≡ placed (p ∷ (qs ++ (q ∷ []))) old
  put-between = let z : 1 + length qs ≡ length (p ∷ qs) = omega arith in last ∙ rw (more_is, z) (held-output old (p ∷ (qs ++ (q ∷ []))) _ (put-holding old (p ∷ qs) q (omega arith)))

-- the first of them are the points again
module _ (ps : List Point2) (old out : List Float) (end : ℕ) (is : out ≡ placed ps old) (long : end ≡ 2 * length ps) where
  points-again : points_of (take end out) ≡ ps
  points-again = rw (first_numbers old ps end out long is) (points-numbers ps)

pub centers_long : (ns : List Float) (count : ℕ) → length (centers ns count) ≡ count
centers_long ns count = length-map (circles_of ns count) center ∙ length-circles ns 0 count

-- through the centres
module _ (ns : List Float) (count : ℕ) (old out : List Float) (is : out ≡ put_all 0 (centers ns count) old) (room : 2 * count ≤ length old) where
  placed-centers : out ≡ placed (centers ns count) old
  placed-centers = is ∙ put_first (centers ns count) old (omega (arith, centers_long ns count))

  twice : 2 * count ≡ 2 * length (centers ns count)
  twice = omega (arith, centers_long ns count)

  pub through_points : points_of (take (2 * count) out) ≡ centers ns count
  through_points = points-again (centers ns count) old out (2 * count) placed-centers twice

-- and between two end points
module _ (p q : Point2) (ns : List Float) (count : ℕ) (old a b d : List Float) (first : a ≡ (put 0 p old).output) (more : b ≡ put_all 1 (centers ns count) a) (last : d ≡ (put (1 + count) q b).output)
    (room : 2 * (count + 2) ≤ length old) where
  abbrev line : List Point2
  line = p ∷ (centers ns count ++ (q ∷ []))

  placed-between : d ≡ placed line old
  placed-between = put-between p q (centers ns count) old a b d first more (rw (centers_long ns count) last) (omega (arith, centers_long ns count))

  twice_more : 2 * (count + 2) ≡ 2 * length line
  twice_more = omega (arith, centers_long ns count, length-append (centers ns count) (q ∷ []))

  pub between-points : points_of (take (2 * (count + 2)) d) ≡ line
  between-points = points-again line old d (2 * (count + 2)) placed-between twice_more

-- ---- the centres of a store

module _ (ns : List Float) (first count k : ℕ) (out whole : List Float) (inv : put_all (first + k) (map center (circles_from ns k (count - k))) out ≡ whole) where
  pub centers_next : k < count → (out₂ : List Float) → out₂ ≡ (put (first + k) (center (circle_at ns k)) out).output → put_all (first + (k + 1)) (map center (circles_from ns (k + 1) (count - (k + 1)))) out₂ ≡ whole
  unfolding put_all circles_from
  centers_next h out₂ e =
      let z : count - k ≡ suc (count - (k + 1)) = omega arith in
      let w : first + (k + 1) ≡ first + k + 1 = omega arith in
      rw (w, e, add-one k) (rw (z, add-one k) at inv)

  pub centers-over : count ≤ k → out ≡ whole
  unfolding put_all circles_from
  centers-over h = let z : count - k ≡ 0 = omega arith in rw z at inv
