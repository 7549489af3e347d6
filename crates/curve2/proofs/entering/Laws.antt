-- Laws of the entry tests 2 and 6, number by number and edge by edge. Assumes nothing.
use mathlib.Core.Path.{◌≡◌, refl, ◌∙◌}
use mathlib.Core.Bool.{Bool, true, false, not, ◌||◌}
use mathlib.Core.List.{List, ◌∷◌, []}
use Prim.Native.Nat.{ℕ, ◌+◌, ◌<◌}
use native.Mathlib.Omega.{arith}
use Rattle.std.specs.List.{list_any}
use lib.ListN.{length, drop}
use lib.Ieee.{Float, lt, le}
use Rattle.points.specs.Numbers.{◌+f◌}
use Rattle.points.specs.declared.Point2.{Point2}
use Rattle.curve2.specs.Section.{points_of, point_at, plain_dist, lengths_from}
use Rattle.curve2.specs.Entry.{in_range, bad_numbers, crowded, not_rising, not_spaced}
use Rattle.curve2.proofs.Laws.{points_step, points-end}

-- ---- test 2, number by number

pub bad_numbers_is : (ns : List Float) → list_any (λ x. not (in_range x)) ns ≡ bad_numbers ns
unfolding bad_numbers
bad_numbers_is [] = refl
bad_numbers_is (x ∷ ns) = rw (bad_numbers_is ns)

-- ---- test 6, edge by edge

or_true : (b : Bool) → true ≡ (b || true)
or_true true = refl
or_true false = refl

-- what the edges left decide: these points, the first of them at length l
abbrev pub not_spaced_from : Float → Float → List Point2 → Bool
not_spaced_from tol l ps = crowded tol ps || not_rising (lengths_from l ps)

-- the lengths from q on, where q has length m, after a point with length l
rising_from : (l m : Float) (q : Point2) (ps : List Point2) → (not (lt l m) || not_rising (lengths_from m (q ∷ ps))) ≡ not_rising (l ∷ lengths_from m (q ∷ ps))
unfolding not_rising lengths_from
rising_from l m q [] = refl
rising_from l m q (p ∷ ps) = refl

module _ (ns : List Float) (tol : Float) (i : ℕ) (l : Float) (inv : not_spaced_from tol l (points_of (drop i ns)) ≡ not_spaced ns tol) where
  module _ (fits : i + 3 < length ns) (d : Float) (e : d ≡ plain_dist (point_at ns (i + 2)) (point_at ns i)) where
    edge : ((le d tol || crowded tol (points_of (drop (i + 2) ns))) || (not (lt l (d +f l)) || not_rising (lengths_from (d +f l) (points_of (drop (i + 2) ns))))) ≡ not_spaced ns tol
    unfolding crowded lengths_from
    edge = rw (e, points_step ns (i + 2) (omega arith), rising_from) (rw (points_step ns i (omega arith), points_step ns (i + 2) (omega arith)) at inv)

    pub too_near : le d tol ≡ true → true ≡ not_spaced ns tol
    too_near p = rw p at edge

    module _ (far : le d tol ≡ false) where
      pub not_rising_lem : lt l (d +f l) ≡ false → true ≡ not_spaced ns tol
      not_rising_lem p = or_true (crowded tol (points_of (drop (i + 2) ns))) ∙ (rw (far, p) at edge)

      pub edge_passed : lt l (d +f l) ≡ true → not_spaced_from tol (d +f l) (points_of (drop (i + 2) ns)) ≡ not_spaced ns tol
      edge_passed p = rw (far, p) at edge

  pub all_spaced : i + 2 ≡ length ns → false ≡ not_spaced ns tol
  unfolding crowded not_rising lengths_from
  all_spaced h = rw (points_step ns i (omega arith), points-end ns (i + 2) (omega arith)) at inv
