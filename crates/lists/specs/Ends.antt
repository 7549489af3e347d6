-- The end of a list of circles: its last two, `end_clip_line` and `end_camber_ray`. Assumes nothing.
use Rattle.std.specs.Prelude.{cond, List, [], ◌∷◌, Ok, Err}
use Rattle.std.specs.Float.Ieee.{lt}
use Rattle.errors.specs.Answer.{Answer, ◌>>=◌}
use Rattle.points.specs.Numbers.{f0}
use Rattle.points.specs.Points.{rotated, difference, dot_of, mid_point_of}
use Rattle.points.specs.declared.Vector2.{Vector2}
use Rattle.points.specs.declared.AngleDir.TheVariants.{Ccw}
use Rattle.line2.specs.Lines.{line_normalized, reversed_line}
use Rattle.line2.specs.Rays.{ray_normalized}
use Rattle.line2.specs.declared.Line2.{Line2}
use Rattle.line2.specs.declared.surface2.SurfacePoint2.{SurfacePoint2}
use Rattle.inscribed.specs.Circles.{center, contact0, contact1, contact_dir}
use Rattle.inscribed.specs.declared.Inscribed.{Inscribed}
use Rattle.lists.specs.declared.ends.Pair.{Pair}
use Rattle.errors.specs.declared.Refusal.TheVariants.{TooFewCircles}

abbrev pub pair : Inscribed → Inscribed → Pair
pair a b = record { before = a; last = b }

-- 7: "fewer than two circles where two are needed"
unfoldable pub last_pair : List Inscribed → Answer Pair
last_pair [] = Err TooFewCircles
last_pair (a ∷ []) = Err TooFewCircles
last_pair (a ∷ (b ∷ [])) = Ok (pair a b)
last_pair (a ∷ (b ∷ (c ∷ cs))) = last_pair (b ∷ (c ∷ cs))

-- the line through the middle of the contacts, along the contact direction turned, normalised
unfoldable pub middle_line : Inscribed → Answer Line2
middle_line c = mid_point_of (contact1 c) (contact0 c) >>= λ o. line_normalized o (rotated Ccw (contact_dir c))

-- a line that faces away is reversed
unfoldable pub faced_line : Vector2 → Line2 → Answer Line2
faced_line facing l = dot_of facing l.direction >>= λ product. Ok (cond (lt product f0) (reversed_line l) l)

-- `end_clip_line`, from the last two circles on: beyond it lies what is beyond the last circle
unfoldable pub clip_line : Pair → Answer Line2
unfolding middle_line faced_line
clip_line p =
    difference (center p.last) (center p.before) >>= λ facing.
    middle_line p.last >>= λ l.
    faced_line facing l

-- `end_camber_ray`: at the last centre, along the clip line's direction, "already normalized" and normalised once more
unfoldable pub end_camber_ray : Pair → Answer SurfacePoint2
unfolding clip_line
end_camber_ray p = clip_line p >>= λ clip. ray_normalized (center p.last) clip.direction
