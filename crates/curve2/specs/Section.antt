-- A section is a list of numbers, x and y of each point in turn. Its points, edges and lengths. Assumes nothing.
use Rattle.std.specs.Prelude.{Bool, true, List, [], ◌∷◌, ℕ, ◌+◌, get_or, Float}
use Rattle.std.specs.Float.{nan}
use Rattle.std.specs.Float.Ieee.{le}
use Rattle.errors.specs.Lists.{last_of}
use Rattle.root.specs.Sqrt.{sqrt_of}
use Rattle.points.specs.Numbers.{◌+f◌, ◌*f◌, f0}
use Rattle.points.specs.Points.{minus}
use Rattle.points.specs.declared.Point2.{Point2}

abbrev pub point : Float → Float → Point2
point x y = record { x = x; y = y }

-- the numbers two by two
unfoldable pub points_of : List Float → List Point2
points_of [] = []
points_of (x ∷ []) = []
points_of (x ∷ (y ∷ ns)) = point x y ∷ points_of ns

-- the point whose numbers start at i
abbrev pub point_at : List Float → ℕ → Point2
point_at ns i = point (get_or ns i nan) (get_or ns (i + 1) nan)

-- The distance of two points, not watched: it is finite, as every coordinate of a section is within 1,000,000.
unfoldable pub plain_dist : Point2 → Point2 → Float
plain_dist a b = let v = minus a b in sqrt_of (v.x *f v.x +f v.y *f v.y)

-- "closed means ends within the tolerance"
unfoldable pub ends_meet : Float → List Point2 → Bool
ends_meet tol [] = true
ends_meet tol (p ∷ ps) = le (plain_dist p (last_of p ps)) tol

unfoldable pub is_closed : List Float → Float → Bool
is_closed ns tol = ends_meet tol (points_of ns)

-- ---- lengths: 0 at the first point, and at each later one its distance from the one before it, plus the length there

-- the length at q, after p with length l
abbrev pub next_length : Float → Point2 → Point2 → Float
next_length l p q = plain_dist q p +f l

unfoldable pub lengths_from : Float → List Point2 → List Float
lengths_from l [] = []
lengths_from l (p ∷ []) = l ∷ []
lengths_from l (p ∷ (q ∷ ps)) = l ∷ lengths_from (next_length l p q) (q ∷ ps)

unfoldable pub lengths_of : List Point2 → List Float
unfolding lengths_from
lengths_of ps = lengths_from f0 ps

-- the length of the whole is the last of them
unfoldable pub whole_length : List Float → Float
whole_length ns = last_of f0 (lengths_of (points_of ns))
