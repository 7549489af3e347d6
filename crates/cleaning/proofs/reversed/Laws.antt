-- Laws of a section's points backwards: their numbers, and the points put so far. Assumes nothing.
use mathlib.Core.Path.{◌≡◌, ◌∙◌}
use mathlib.Core.List.{List, [], ◌∷◌, ◌++◌, reverse, reverse-cons}
use Prim.Native.Nat.{ℕ, ◌+◌, ◌*◌, ◌%◌, ◌≤◌}
use native.Mathlib.Omega.{arith}
use lib.ListN.{length, drop, length-drop, length-reverse}
use lib.Ieee.{Float}
use Rattle.points.specs.declared.Point2.{Point2}
use Rattle.curve2.specs.Section.{points_of, point_at}
use Rattle.curve2.proofs.Laws.{points_step, points-end}
use Rattle.cleaning.specs.Cleaning.{point_numbers, placed}
use Rattle.cleaning.specs.Code.{Held, put}
use Rattle.cleaning.proofs.Numbers.{points-length}
use Rattle.cleaning.proofs.HeldLaws.{put-holding}
use Rattle.cleaning.proofs.Made.{held-output}

-- ---- backwards

pub backwards-length : (ns : List Float) → length ns % 2 ≡ 0 → length ns ≡ 2 * length (reverse (points_of ns))
backwards-length ns h = omega (arith, points-length ns h, length-reverse (points_of ns))

-- the points from i on, backwards
abbrev pub back_from : List Float → ℕ → List Point2
back_from ns i = reverse (points_of (drop i ns))

pub back_none : (old ns : List Float) (i : ℕ) → length ns ≤ i → old ≡ placed (back_from ns i) old
unfolding point_numbers
back_none old ns i h = rw (points-end ns i h)

-- one more behind those that are there, the point in front of them
module _ (ns : List Float) (i j count : ℕ) (step : i ≡ j + 2) (placed_so_far : 2 * count + i ≡ length ns) where
  back_step : back_from ns j ≡ back_from ns i ++ (point_at ns j ∷ [])
  back_step = rw (points_step ns j (omega arith), step) (reverse-cons (point_at ns j) (points_of (drop (j + 2) ns)))

  back-count : count ≡ length (back_from ns i)
  back-count =
      let left : length (drop i ns) ≡ 2 * count = omega (arith, length-drop i ns) in
      omega (arith, points-length (drop i ns) (omega arith), length-reverse (points_of (drop i ns)))

  pub back_one : (old out : List Float) → length ns ≤ length old → out ≡ placed (back_from ns i) old → (p : Point2) → p ≡ point_at ns j
      → (h : Held) → h ≡ put count p out → h.output ≡ placed (back_from ns j) old
  back_one old out room inv p at h f =
      held-output _ _ _ (f ∙ rw (inv, at, back-count, back_step) (put-holding old (back_from ns i) (point_at ns j) (omega (arith, back-count))))
