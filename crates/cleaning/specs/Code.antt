-- The code's own steps: the points held so far with the output that holds them, and one point more. No entry point's promise rests on it. Assumes nothing.
use Rattle.std.specs.Prelude.{Bool, cond, List, [], ◌∷◌, ℕ, ◌+◌, ◌*◌, length, set, Float}
use Rattle.std.specs.Float.{nan}
use Rattle.std.specs.Float.Ieee.{le}
use Rattle.errors.specs.Lists.{last_of}
use Rattle.points.specs.declared.Point2.{Point2}
use Rattle.curve2.specs.Section.{point, point_at, plain_dist}
use Rattle.cleaning.specs.Cleaning.{placed}
use Rattle.cleaning.specs.declared.Kept.{Kept}

-- the points held so far, and the output
pub record Held : Type 0 where
  pub kept : Kept
  pub output : List Float

-- a point more, whatever its distance from the last
unfoldable pub put : ℕ → Point2 → List Float → Held
put count p out =
    record { kept = record { count = count + 1; last = p }; output = set (set out (2 * count) p.x) (2 * count + 1) p.y }

-- a point that is kept if it is farther than the tolerance from the last one held
unfoldable pub keep : Float → Held → Point2 → Held
keep tol h p = cond (le (plain_dist p h.kept.last) tol) h (put h.kept.count p h.output)

-- forced closing keeps the start once more, if the last one held is farther from it than the tolerance
unfoldable pub close_held : Float → Bool → Held → Held
unfolding keep
close_held tol forced h = cond forced (keep tol h (point_at h.output 0)) h

-- ---- what is held, from the points

unfoldable pub last_point : List Point2 → Point2
last_point [] = point nan nan
last_point (p ∷ ps) = last_of p ps

-- these points, in an output that was `old`
unfoldable pub holding : List Float → List Point2 → Held
holding old ps = record { kept = record { count = length ps; last = last_point ps }; output = placed ps old }
