-- Points and vectors: the small leaves, in the order of their list, and the leaf rule on quarter turns.
-- A coordinate or direction worked out, a dot product and a length are watched (12). Where a difference goes straight into a dot product it is watched there:
-- a part of it that isn't finite makes the product so. Assumes nothing.
use Rattle.std.specs.Prelude.{Bool, ◌&&◌, cond, Float, Ok, Err}
use Rattle.std.specs.Float.Ieee.{neg, eq}
use Rattle.std.specs.Float.Ieee.Scale.{finite}
use Rattle.errors.specs.Answer.{Answer, watched, watched_as, ◌>>=◌}
use Rattle.root.specs.Sqrt.{root_of}
use Rattle.points.specs.Numbers.{◌+f◌, ◌-f◌, ◌*f◌, ◌/f◌, f0, f½}
use Rattle.points.specs.declared.Point2.{Point2}
use Rattle.points.specs.declared.Vector2.{Vector2}
use Rattle.points.specs.declared.AngleDir.{AngleDir}
use Rattle.points.specs.declared.AngleDir.TheVariants.{Cw, Ccw}
use Rattle.errors.specs.declared.Refusal.TheVariants.{NotFinite, ZeroLength}

abbrev pub finite_point : Point2 → Bool
finite_point p = finite p.x && finite p.y

abbrev pub finite_vector : Vector2 → Bool
finite_vector v = finite v.x && finite v.y

abbrev pub watched_point : Point2 → Answer Point2
watched_point p = watched_as finite_point p

abbrev pub watched_vector : Vector2 → Answer Vector2
watched_vector v = watched_as finite_vector v

-- ---- plain sums

-- a - b
abbrev pub minus : Point2 → Point2 → Vector2
minus a b = record { x = a.x -f b.x; y = a.y -f b.y }

-- p + v
abbrev pub plus_vector : Point2 → Vector2 → Point2
plus_vector p v = record { x = p.x +f v.x; y = p.y +f v.y }

-- v × t
abbrev pub times : Vector2 → Float → Vector2
times v t = record { x = v.x *f t; y = v.y *f t }

-- p + v × t
abbrev pub moved : Point2 → Vector2 → Float → Point2
moved p v t = plus_vector p (times v t)

abbrev pub plus : Vector2 → Vector2 → Vector2
plus a b = record { x = a.x +f b.x; y = a.y +f b.y }

abbrev pub negated : Vector2 → Vector2
negated v = record { x = neg v.x; y = neg v.y }

abbrev pub divided_by : Vector2 → Float → Vector2
divided_by v l = record { x = v.x /f l; y = v.y /f l }

-- ---- leaf rule "Quarter turn": clockwise (x, y) to (y, -x), the other way (-y, x)

abbrev pub rotated : AngleDir → Vector2 → Vector2
rotated Cw v = record { x = v.y; y = neg v.x }
rotated Ccw v = record { x = neg v.y; y = v.x }

-- ---- watched steps

unfoldable pub difference : Point2 → Point2 → Answer Vector2
difference a b = watched_vector (minus a b)

-- "dot is x times x plus y times y"
unfoldable pub dot_of : Vector2 → Vector2 → Answer Float
dot_of a b = watched (a.x *f b.x +f a.y *f b.y)

-- the length of a vector: the root of its dot product with itself
unfoldable pub norm_of : Vector2 → Answer Float
norm_of v = dot_of v v >>= root_of

-- the distance of two points
unfoldable pub dist_of : Point2 → Point2 → Answer Float
dist_of a b = norm_of (minus a b)

-- `mid_point` of points.rs: b + (a - b) × 0.5
unfoldable pub mid_point_of : Point2 → Point2 → Answer Point2
mid_point_of a b = watched_point (moved b (minus a b) f½)

-- "normalising divides by the length"; 11: "a vector to be normalised has length zero"
unfoldable pub normalized : Vector2 → Answer Vector2
normalized v = norm_of v >>= λ l. cond (eq l f0) (Err ZeroLength) (watched_vector (divided_by v l))
