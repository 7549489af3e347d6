-- Surface points (point and normal), which are the camber rays too. Assumes nothing.
use Rattle.std.specs.Prelude.{Float, Ok}
use Rattle.errors.specs.Answer.{Answer, ◌>>=◌}
use Rattle.points.specs.Numbers.{f½}
use Rattle.points.specs.Points.{watched_point, minus, plus, moved, rotated, dot_of, normalized}
use Rattle.points.specs.declared.Point2.{Point2}
use Rattle.points.specs.declared.Vector2.{Vector2}
use Rattle.points.specs.declared.AngleDir.{AngleDir}
use Rattle.line2.specs.Lines.{line_of}
use Rattle.line2.specs.declared.Line2.{Line2}
use Rattle.line2.specs.declared.surface2.SurfacePoint2.{SurfacePoint2}

abbrev pub surface_point : Point2 → Vector2 → SurfacePoint2
surface_point p n = record { point = p; normal = n }

-- `SurfacePoint2::new_normalize`
unfoldable pub ray_normalized : Point2 → Vector2 → Answer SurfacePoint2
ray_normalized p v = normalized v >>= λ n. Ok (surface_point p n)

-- "a scalar projection is normal·(p - point)"
unfoldable pub ray_projection : SurfacePoint2 → Point2 → Answer Float
ray_projection r p = dot_of r.normal (minus p r.point)

-- "`shifted` and `at_distance` are point + normal × distance": the point alone, and the ray with its normal
unfoldable pub at_distance : SurfacePoint2 → Float → Answer Point2
at_distance r d = watched_point (moved r.point r.normal d)

unfoldable pub shifted_ray : SurfacePoint2 → Float → Answer SurfacePoint2
shifted_ray r d = at_distance r d >>= λ p. Ok (surface_point p r.normal)

-- `normal_rotated_90`
abbrev pub rotated_ray : AngleDir → SurfacePoint2 → SurfacePoint2
rotated_ray dir r = surface_point r.point (rotated dir r.normal)

-- the line with the ray's point and normal
abbrev pub ray_line : SurfacePoint2 → Line2
ray_line r = line_of r.point r.normal

-- leaf rule "Halfway ray": "point a + (b - a) × 0.5, normal the normalised sum of both normals"; the point comes first
unfoldable pub halfway_ray : SurfacePoint2 → SurfacePoint2 → Answer SurfacePoint2
halfway_ray a b =
    watched_point (moved a.point (minus b.point a.point) f½) >>= λ p.
    normalized (plus a.normal b.normal) >>= λ n.
    Ok (surface_point p n)
