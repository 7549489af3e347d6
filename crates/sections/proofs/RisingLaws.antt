-- The lengths of a section that passed its tests rise from zero. Assumes nothing.
use mathlib.Core.Path.{◌≡◌, refl}
use mathlib.Core.Bool.{true, false, not}
use mathlib.Core.List.{List, [], ◌∷◌}
use Prim.Native.Nat.{ℕ, zero, suc, ◌+◌, ◌≤◌, ◌<◌}
use native.Mathlib.Numerals.{add-one}
use native.Mathlib.Omega.{arith}
use borrow.Author.Tests.{not-false}
use lib.Dec.{T}
use lib.ListN.{length, get_or}
use lib.Ieee.{Float, nan, lt}
use lib.Ieee.Scale.{finite}
use Rattle.points.specs.Numbers.{◌+f◌, f0}
use Rattle.points.specs.declared.Point2.{Point2}
use Rattle.points.proofs.Plus.{plus, plus_above, finite_below, f0-plus}
use Rattle.curve2.specs.Section.{points_of, plain_dist, lengths_from, lengths_of}
use Rattle.curve2.specs.Entry.{crowded, not_rising, IsSection}
use Rattle.curve2.specs.Stations.{last_vertex}
use Rattle.curve2.proofs.Laws.{or_left, or_right, length-points}
use Rattle.sections.specs.Places.{length_at}
use Rattle.sections.proofs.LengthLaws.{length_start}

lengths_long : (l : Float) (ps : List Point2) → length (lengths_from l ps) ≡ length ps
unfolding lengths_from
lengths_long l [] = refl
lengths_long l (p ∷ []) = refl
lengths_long l (p ∷ (q ∷ ps)) = omega (arith, lengths_long (plain_dist q p +f l) (q ∷ ps))

rising_at : (ls : List Float) (i : ℕ) → not_rising ls ≡ false → i + 1 < length ls → lt (get_or ls i nan) (get_or ls (i + 1) nan) ≡ true
unfolding not_rising
rising_at [] i r h = absurd (omega arith)
rising_at (l ∷ []) i r h = absurd (omega arith)
rising_at (l ∷ (m ∷ ls)) zero r h = not-false (lt l m) (or_left (not (lt l m)) (not_rising (m ∷ ls)) r)
rising_at (l ∷ (m ∷ ls)) (suc i) r h = rw (add-one (suc i)) (rw (add-one i) at (rising_at (m ∷ ls) i (or_right (not (lt l m)) (not_rising (m ∷ ls)) r) (omega arith)))

module _ (ns : List Float) (tol : Float) (sec : IsSection ns tol) where
  pub length_rises : (i : ℕ) → i < last_vertex ns → lt (length_at ns i) (length_at ns (i + 1)) ≡ true
  unfolding lengths_of
  length_rises i h =
      rising_at (lengths_of (points_of ns)) i (or_right (crowded tol (points_of ns)) (not_rising (lengths_of (points_of ns))) sec.spaced)
      (omega (arith, lengths_long f0 (points_of ns), length-points ns, h))

  pub length-plus : (i : ℕ) → i ≤ last_vertex ns → T (plus (length_at ns i))
  length-plus zero h = rw (length_start ns (omega (arith, sec.points.least))) f0-plus
  length-plus (suc i) h = rw (← (add-one i)) (plus_above (length_at ns i) (length_at ns (i + 1)) (length-plus i (omega arith)) (rw (length_rises i (omega arith)) tt))

  pub length-finite : (i : ℕ) → i < last_vertex ns → T (finite (length_at ns i))
  length-finite i h = finite_below (length_at ns i) (length_at ns (i + 1)) (length-plus i (omega arith)) (rw (length_rises i h) tt)
