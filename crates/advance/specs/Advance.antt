-- `advance_search`: what is ahead of a circle, `remaining`, and the crossing that one of the four fractions finds. Assumes nothing.
use Rattle.std.specs.Prelude.{cond, true, List, [], ◌∷◌, ℕ, zero, suc, Float, Option, Some, None, Ok}
use Rattle.std.specs.Float.{inf, binary64}
use Rattle.std.specs.Float.Ieee.{lt, of_bits}
use Rattle.errors.specs.Answer.{Answer, ◌>>=◌}
use Rattle.errors.specs.Numbers.{is_plus}
use Rattle.points.specs.Numbers.{◌*f◌, f½, ◌-f◌}
use Rattle.points.specs.Points.{dist_of, rotated, norm_of}
use Rattle.points.specs.declared.Point2.{Point2}
use Rattle.line2.specs.Rays.{at_distance, ray_projection}
use Rattle.line2.specs.declared.surface2.SurfacePoint2.{SurfacePoint2}
use Rattle.curve2.specs.Section.{points_of}
use Rattle.inscribed.specs.Circles.{camber_point, contact0, contact1}
use Rattle.inscribed.specs.declared.Inscribed.{Inscribed}
use Rattle.points.specs.declared.AngleDir.TheVariants.{Ccw}
use Rattle.line2.specs.Lines.{line_of}
use Rattle.queries.specs.Crossing.{crossing_of}
use Rattle.queries.specs.declared.Crossing.{Crossing}

-- ---- `remaining`

-- the farthest so far and p: only where the projection's sign bit is clear is the distance worked out
unfoldable pub farther : SurfacePoint2 → Float → Point2 → Answer Float
farther ray most p =
    ray_projection ray p >>= λ ahead.
    let far = dist_of ray.point p >>= λ d. Ok (cond (lt most d) d most) in
    cond (is_plus ahead) far (Ok most)

unfoldable pub farthest : SurfacePoint2 → Float → List Point2 → Answer Float
farthest ray most [] = Ok most
farthest ray most (p ∷ ps) = farther ray most p >>= λ next. farthest ray next ps

-- "the infinite start values of `remaining` .. aren't watched"
abbrev pub remaining : List Float → SurfacePoint2 → Answer Float
remaining ns ray = farthest ray (inf true) (points_of ns)

-- ---- before a unit is asked

-- the end of the march, or the camber ray to advance along
pub data MarchAhead : Type 0 where
  done : MarchAhead
  advance_ray : SurfacePoint2 → MarchAhead

-- 0.375
abbrev pub stop_fraction : Float
stop_fraction = of_bits binary64 0x3fd8_0000_0000_0000

-- "It ends at the stop fraction 0.375"
unfoldable pub look_ahead : List Float → Inscribed → Answer MarchAhead
look_ahead ns c =
    camber_point c >>= λ ray.
    remaining ns ray >>= λ d.
    Ok (cond (lt (d -f c.r) (c.r *f stop_fraction)) done (advance_ray ray))

-- ---- the steps

-- "fractions 0.125, 0.09375, 0.0703125, 0.052734375"
abbrev pub fraction : ℕ → Float
fraction zero = of_bits binary64 0x3fc0_0000_0000_0000
fraction (suc zero) = of_bits binary64 0x3fb8_0000_0000_0000
fraction (suc (suc zero)) = of_bits binary64 0x3fb2_0000_0000_0000
fraction (suc (suc (suc k))) = of_bits binary64 0x3fab_0000_0000_0000

-- the step from c with fraction number k
abbrev pub step_of : Inscribed → ℕ → Float
step_of c k = fraction k *f c.r

-- ---- one crossing tried

-- a crossing that spans less than half of c's contacts is no line to go on with
unfoldable pub wide_enough : Inscribed → Option Crossing → Answer (Option Crossing)
wide_enough c None = Ok None
wide_enough c (Some x) = dist_of (contact0 c) (contact1 c) >>= λ was. norm_of x.line.direction >>= λ now. Ok (cond (lt now (f½ *f was)) None (Some x))

unfoldable pub tried_line : List Float → Inscribed → SurfacePoint2 → ℕ → Answer (Option Crossing)
tried_line ns c ray k = at_distance ray (step_of c k) >>= λ o. crossing_of ns (line_of o (rotated Ccw ray.normal)) >>= wide_enough c
