-- Laws of points and their numbers. Assumes nothing.
use mathlib.Core.Path.{◌≡◌, refl, ap}
use mathlib.Core.List.{List, [], ◌∷◌, ◌++◌}
use Prim.Native.Nat.{◌*◌, ◌%◌}
use native.Mathlib.Omega.{arith}
use lib.ListN.{length}
use lib.Ieee.{Float}
use Rattle.errors.specs.Lists.{last_of}
use Rattle.points.specs.declared.Point2.{Point2}
use Rattle.curve2.specs.Section.{points_of}
use Rattle.cleaning.specs.Cleaning.{point_numbers}

pub numbers-length : (ps : List Point2) → length (point_numbers ps) ≡ 2 * length ps
unfolding point_numbers
numbers-length [] = refl
numbers-length (p ∷ ps) = omega (arith, numbers-length ps)

pub points-numbers : (ps : List Point2) → points_of (point_numbers ps) ≡ ps
unfolding point_numbers points_of
points-numbers [] = refl
points-numbers (p ∷ ps) = rw (points-numbers ps)

pub numbers-points : (ns : List Float) → length ns % 2 ≡ 0 → point_numbers (points_of ns) ≡ ns
unfolding point_numbers points_of
numbers-points [] h = refl
numbers-points (x ∷ []) h = absurd (omega arith)
numbers-points (x ∷ (y ∷ ns)) h = rw (numbers-points ns (omega arith))

pub points-length : (ns : List Float) → length ns % 2 ≡ 0 → 2 * length (points_of ns) ≡ length ns
points-length ns h = omega (arith, numbers-length (points_of ns), ap length (numbers-points ns h))

pub numbers-snoc : (ps : List Point2) (p : Point2) → point_numbers (ps ++ (p ∷ [])) ≡ point_numbers ps ++ (p.x ∷ (p.y ∷ []))
unfolding point_numbers
numbers-snoc [] p = refl
numbers-snoc (q ∷ ps) p = rw (numbers-snoc ps p)

pub last_snoc : (q : Point2) (ps : List Point2) (p : Point2) → last_of q (ps ++ (p ∷ [])) ≡ p
unfolding last_of
last_snoc q [] p = refl
last_snoc q (r ∷ ps) p = last_snoc r ps p
