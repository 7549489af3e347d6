-- The probe into the gap of an open section: a line halfway to the nearer end of the gap, and the circle on it. Assumes nothing.
use Rattle.std.specs.Prelude.{cond, List, Float, Option, Ok, Err}
use Rattle.std.specs.Float.Ieee.{lt}
use Rattle.errors.specs.Answer.{Answer, ◌>>=◌}
use Rattle.points.specs.Numbers.{◌*f◌, f0, f½}
use Rattle.points.specs.Points.{dot_of}
use Rattle.points.specs.declared.AngleDir.TheVariants.{Ccw}
use Rattle.line2.specs.Lines.{reversed_line}
use Rattle.line2.specs.Rays.{ray_projection, shifted_ray, rotated_ray, ray_line}
use Rattle.line2.specs.declared.Line2.{Line2}
use Rattle.line2.specs.declared.surface2.SurfacePoint2.{SurfacePoint2}
use Rattle.inscribed.specs.Circles.{contact_dir}
use Rattle.inscribed.specs.declared.Inscribed.{Inscribed}
use Rattle.lists.specs.Ends.{end_camber_ray}
use Rattle.lists.specs.declared.ends.Pair.{Pair}
use Rattle.gap.specs.declared.Gap.{Gap}
use Rattle.errors.specs.declared.Refusal.TheVariants.{GapBehind}
use Rattle.halving.specs.Halving.{try_inscribed}

abbrev pub lesser : Float → Float → Float
lesser a b = cond (lt b a) b a

-- how far the nearer end of the gap lies ahead; 18: "a gap end projects below zero on the camber ray"
unfoldable pub ahead_of : SurfacePoint2 → Gap → Answer Float
ahead_of ray gap =
    ray_projection ray gap.a >>= λ a.
    ray_projection ray gap.b >>= λ b.
    cond (lt (lesser a b) f0) (Err GapBehind) (Ok (lesser a b))

-- the line across the ray, turned to the stack's contact direction
unfoldable pub turned_to : Inscribed → Line2 → Answer Line2
turned_to last probe = dot_of probe.direction (contact_dir last) >>= λ product. Ok (cond (lt product f0) (reversed_line probe) probe)

-- moved halfway to the nearer end
unfoldable pub across_ray : SurfacePoint2 → Float → Inscribed → Answer Line2
unfolding turned_to
across_ray ray far last = shifted_ray ray (far *f f½) >>= λ moved. turned_to last (ray_line (rotated_ray Ccw moved))

unfoldable pub probe_line : Pair → Gap → Answer Line2
unfolding ahead_of across_ray
probe_line end gap =
    end_camber_ray end >>= λ ray.
    ahead_of ray gap >>= λ far.
    across_ray ray far end.last

-- the circle on its line; none where the line has not two hits
unfoldable pub probed : List Float → Float → Gap → Pair → Answer (Option Inscribed)
unfolding probe_line
probed ns tol gap end = probe_line end gap >>= try_inscribed ns tol
