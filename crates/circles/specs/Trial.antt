-- `inscribed_refined`, the trial. Assumes nothing.
use Rattle.std.specs.Prelude.{◌||◌, cond, List, Float, Option, Some, None, Ok}
use Rattle.std.specs.Float.Ieee.{lt, neg}
use Rattle.errors.specs.Answer.{Answer, watched, ◌>>=◌}
use Rattle.points.specs.Numbers.{◌+f◌, ◌-f◌, ◌*f◌, f0, f½}
use Rattle.points.specs.Points.{dist_of}
use Rattle.points.specs.declared.AngleDir.TheVariants.{Ccw}
use Rattle.line2.specs.Rays.{halfway_ray, rotated_ray, ray_line}
use Rattle.line2.specs.declared.surface2.SurfacePoint2.{SurfacePoint2}
use Rattle.inscribed.specs.Circles.{center, camber_point}
use Rattle.inscribed.specs.declared.Inscribed.{Inscribed}
use Rattle.halving.specs.Halving.{try_inscribed}

-- the size of x, and the greater of two
abbrev pub size_of : Float → Float
size_of x = cond (lt x f0) (neg x) x

abbrev pub greater : Float → Float → Float
greater a b = cond (lt a b) b a

-- the radius halfway
abbrev pub middle_radius : Inscribed → Inscribed → Float
middle_radius a b = (b.r -f a.r) *f f½ +f a.r

-- the circle on the halfway line is added where it is larger than both, or its radius or its place is off by more than the tolerance
unfoldable pub judged : Float → Inscribed → Inscribed → SurfacePoint2 → Option Inscribed → Answer (Option Inscribed)
judged tol a b ray None = Ok None
judged tol a b ray (Some c) =
    watched (size_of (c.r -f middle_radius a b)) >>= λ eRadius.
    dist_of ray.point (center c) >>= λ ePos.
    Ok (cond (lt (greater a.r b.r) c.r || (lt tol eRadius || lt tol ePos)) (Some c) None)

-- from the halfway ray on: "a halfway line without a crossing adds nothing and is no refusal"
unfoldable pub tried_on : List Float → Float → Inscribed → Inscribed → SurfacePoint2 → Answer (Option Inscribed)
unfolding judged
tried_on ns tol a b ray = try_inscribed ns tol (ray_line (rotated_ray Ccw ray)) >>= λ found. judged tol a b ray found

-- `inscribed_refined` of a, the earlier, and b
unfoldable pub trial : List Float → Float → Inscribed → Inscribed → Answer (Option Inscribed)
unfolding tried_on
trial ns tol a b =
    camber_point a >>= λ ca.
    camber_point b >>= λ cb.
    halfway_ray ca cb >>= λ ray.
    tried_on ns tol a b ray
