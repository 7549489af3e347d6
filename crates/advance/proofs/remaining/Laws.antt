-- The loop over the points that are ahead. Assumes nothing.
use mathlib.Core.Path.{◌≡◌}
use mathlib.Core.List.{List}
use Prim.Native.Nat.{ℕ, ◌+◌, ◌≤◌, ◌<◌}
use lib.ListN.{length, drop}
use lib.Ieee.{Float}
use Rattle.std.specs.Prelude.{Ok, Err}
use Rattle.errors.specs.Answer.{Answer}
use Rattle.errors.specs.declared.Refusal.{Refusal}
use Rattle.line2.specs.declared.surface2.SurfacePoint2.{SurfacePoint2}
use Rattle.curve2.specs.Section.{points_of, point_at}
use Rattle.curve2.proofs.Laws.{points_step, points-end}
use Rattle.advance.specs.Advance.{farther, farthest}

-- each way through the loop's body keeps that what is left decides

module _ (ns : List Float) (ray : SurfacePoint2) (i : ℕ) (most : Float) (whole : Answer Float) (inv : farthest ray most (points_of (drop i ns)) ≡ whole) where
  module _ (fits : i + 1 < length ns) (r : Answer Float) (is : r ≡ farther ray most (point_at ns i)) where
    pub farthest-refused : (x : Refusal) → r ≡ Err x → Err x ≡ whole
    unfolding farthest
    farthest-refused x e = rw (points_step ns i fits, ← (rw e at is)) at inv

    pub farthest_on : (next : Float) → r ≡ Ok next → farthest ray next (points_of (drop (i + 2) ns)) ≡ whole
    unfolding farthest
    farthest_on next e = rw (points_step ns i fits, ← (rw e at is)) at inv

  pub farthest-end : length ns ≤ i → Ok most ≡ whole
  unfolding farthest
  farthest-end h = rw (points-end ns i h) at inv
