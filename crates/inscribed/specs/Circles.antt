-- A circle: centre x, y, radius, contact p0 x, y, contact p1 x, y, then 02 (f): "the lengths along of the section's nearest points to p0 and to p1". Assumes nothing.
use Rattle.std.specs.Prelude.{Float}
use Rattle.errors.specs.Answer.{Answer}
use Rattle.points.specs.Points.{minus, rotated}
use Rattle.points.specs.declared.Point2.{Point2}
use Rattle.points.specs.declared.Vector2.{Vector2}
use Rattle.points.specs.declared.AngleDir.TheVariants.{Cw}
use Rattle.line2.specs.Rays.{ray_normalized}
use Rattle.line2.specs.declared.surface2.SurfacePoint2.{SurfacePoint2}
use Rattle.curve2.specs.Section.{point}
use Rattle.inscribed.specs.declared.Inscribed.{Inscribed}

abbrev pub center : Inscribed → Point2
center c = point c.cx c.cy

abbrev pub contact0 : Inscribed → Point2
contact0 c = point c.p0x c.p0y

abbrev pub contact1 : Inscribed → Point2
contact1 c = point c.p1x c.p1y

abbrev pub inscribed : Point2 → Float → Point2 → Point2 → Float → Float → Inscribed
inscribed o r p q l m = record { cx = o.x; cy = o.y; r = r; p0x = p.x; p0y = p.y; p1x = q.x; p1y = q.y; l0 = l; l1 = m }

-- `contact_dir`: from the first contact to the second
abbrev pub contact_dir : Inscribed → Vector2
contact_dir c = minus (contact1 c) (contact0 c)

-- `camber_point`: at the centre, along the contact direction turned clockwise
unfoldable pub camber_point : Inscribed → Answer SurfacePoint2
camber_point c = ray_normalized (center c) (rotated Cw (contact_dir c))

-- `reverse_points`: the contacts swapped; "Swapping contacts swaps them too."
abbrev pub reversed_points : Inscribed → Inscribed
reversed_points c = inscribed (center c) c.r (contact1 c) (contact0 c) c.l1 c.l0
