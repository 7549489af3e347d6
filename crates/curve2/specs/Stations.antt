-- A station is a point of a section with a direction, its edge and its fraction of that edge. Stations at vertices. Assumes nothing.
use Rattle.std.specs.Prelude.{◌&&◌, ◌||◌, cond, List, ℕ, ◌+◌, ◌-◌, ◌*◌, ◌/◌, eqb, length, Float, Ok}
use Rattle.errors.specs.Answer.{Answer, ◌>>=◌}
use Rattle.points.specs.Numbers.{f0, f1}
use Rattle.points.specs.Points.{minus, plus, rotated, normalized}
use Rattle.points.specs.declared.Point2.{Point2}
use Rattle.points.specs.declared.Vector2.{Vector2}
use Rattle.points.specs.declared.AngleDir.TheVariants.{Cw}
use Rattle.line2.specs.Rays.{surface_point}
use Rattle.line2.specs.declared.surface2.SurfacePoint2.{SurfacePoint2}
use Rattle.curve2.specs.Section.{point_at, is_closed}
use Rattle.curve2.specs.declared.CurveStation2.{CurveStation2}

abbrev pub station : Point2 → Vector2 → ℕ → Float → CurveStation2
station p d i f = record { point = p; direction = d; index = i; fraction = f }

abbrev pub vertex : List Float → ℕ → Point2
vertex ns i = point_at ns (2 * i)

abbrev pub last_vertex : List Float → ℕ
last_vertex ns = length ns / 2 - 1

-- `dir_of_edge`
unfoldable pub edge_direction : List Float → ℕ → Answer Vector2
edge_direction ns i = normalized (minus (vertex ns (i + 1)) (vertex ns i))

-- "the normalised sum of the two edge directions"
unfoldable pub mean_direction : List Float → ℕ → ℕ → Answer Vector2
mean_direction ns i j = edge_direction ns i >>= λ a. edge_direction ns j >>= λ b. normalized (plus a b)

-- `dir_of_vertex`: at both ends of a closed section the first and the last edge meet; an open end has its own edge's direction
unfoldable pub vertex_direction : List Float → Float → ℕ → Answer Vector2
vertex_direction ns tol i =
    let last = last_vertex ns in
    cond (is_closed ns tol && (eqb i 0 || eqb i last)) (mean_direction ns 0 (last - 1))
    (cond (eqb i 0) (edge_direction ns 0)
    (cond (eqb i last) (edge_direction ns (last - 1))
    (mean_direction ns (i - 1) i)))

-- `at_vertex`: "the last vertex is the last edge at fraction 1"
unfoldable pub at_vertex : List Float → Float → ℕ → Answer CurveStation2
at_vertex ns tol i =
    vertex_direction ns tol i >>= λ d.
    Ok (cond (eqb i (last_vertex ns)) (station (vertex ns i) d (i - 1) f1) (station (vertex ns i) d i f0))

-- ---- what a station tells

-- `normal`, by the leaf rule on quarter turns: the direction turned clockwise
abbrev pub normal_of : CurveStation2 → Vector2
normal_of s = rotated Cw s.direction

-- `surface_point`: the point with that normal
abbrev pub surface_of : CurveStation2 → SurfacePoint2
surface_of s = surface_point s.point (normal_of s)
