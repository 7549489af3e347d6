-- Lines: origin and direction. Assumes nothing.
use Rattle.std.specs.Prelude.{Bool, ◌&&◌, Float, Ok}
use Rattle.errors.specs.Answer.{Answer, ◌>>=◌}
use Rattle.points.specs.Points.{finite_point, finite_vector, watched_point, minus, moved, negated, rotated, difference, dot_of, normalized}
use Rattle.points.specs.declared.Point2.{Point2}
use Rattle.points.specs.declared.Vector2.{Vector2}
use Rattle.points.specs.declared.AngleDir.TheVariants.{Cw}
use Rattle.line2.specs.declared.Line2.{Line2}

abbrev pub line_of : Point2 → Vector2 → Line2
line_of o d = record { origin = o; direction = d }

abbrev pub finite_line : Line2 → Bool
finite_line l = finite_point l.origin && finite_vector l.direction

-- "a line through a and b, or a segment's, has origin a, direction b - a"
unfoldable pub line_through : Point2 → Point2 → Answer Line2
line_through a b = difference b a >>= λ d. Ok (line_of a d)

-- `Line2::new_normalize`
unfoldable pub line_normalized : Point2 → Vector2 → Answer Line2
line_normalized o v = normalized v >>= λ d. Ok (line_of o d)

-- "reversing negates the direction"
abbrev pub reversed_line : Line2 → Line2
reversed_line l = line_of l.origin (negated l.direction)

-- `at`: origin + direction × t, also at 0 and 1
unfoldable pub at_param : Line2 → Float → Answer Point2
at_param l t = watched_point (moved l.origin l.direction t)

-- "a scalar projection is .. for a line direction·(p - origin)"
unfoldable pub line_projection : Line2 → Point2 → Answer Float
line_projection l p = dot_of l.direction (minus p l.origin)

-- `signed_distance_to`: the direction normalised, turned clockwise, times (p - origin); positive is to the right
unfoldable pub signed_distance : Line2 → Point2 → Answer Float
signed_distance l p = normalized l.direction >>= λ d. dot_of (rotated Cw d) (minus p l.origin)
