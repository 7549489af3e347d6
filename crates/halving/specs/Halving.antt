-- `inscribed_from_crossing`, where the centre is found on a crossing line by halving, and `try_inscribed`, the circle on a line. Assumes nothing.
use Rattle.std.specs.Prelude.{Bool, cond, List, ℕ, zero, suc, Float, Option, Some, None, Ok, Err}
use Rattle.std.specs.Float.Ieee.{lt, of_bits}
use Rattle.std.specs.Float.{binary64}
use Rattle.errors.specs.Answer.{Answer, ◌>>=◌}
use Rattle.points.specs.Numbers.{◌+f◌, ◌-f◌, ◌*f◌, f0, f½, f1}
use Rattle.points.specs.Points.{minus, dot_of, dist_of, norm_of}
use Rattle.points.specs.declared.Point2.{Point2}
use Rattle.points.specs.declared.Vector2.{Vector2}
use Rattle.line2.specs.Lines.{at_param}
use Rattle.line2.specs.declared.Line2.{Line2}
use Rattle.queries.specs.Nearest.{nearest_of}
use Rattle.sections.specs.Places.{closest_lengths}
use Rattle.inscribed.specs.Circles.{inscribed}
use Rattle.inscribed.specs.declared.Inscribed.{Inscribed}
use Rattle.halving.specs.declared.bisection.InscribedEnd.{InscribedEnd}
pub use Rattle.halving.specs.declared.bisection.SearchEnds.{SearchEnds}
use Rattle.queries.specs.declared.Crossing.{Crossing}
use Rattle.errors.specs.declared.Refusal.TheVariants.{TooLong}
use Rattle.queries.specs.Crossing.{crossing_of, crossing_on}

abbrev pub search_end : Float → Float → Point2 → InscribedEnd
search_end f d p = record { f = f; d = d; p = p }

-- one of the ends moves to the working point, whose nearest point is p: "The upper end moves only if the product with the direction is above zero."
unfoldable pub moved_ends : Vector2 → SearchEnds → Float → Point2 → Point2 → Answer SearchEnds
moved_ends direction e fraction working p =
    dist_of working p >>= λ distance.
    dot_of (minus p working) direction >>= λ product.
    let end = search_end fraction distance p in
    Ok (cond (lt f0 product) (record { pos = end; neg = e.neg }) (record { pos = e.pos; neg = end }))

-- one halving
unfoldable pub halved : List Float → Line2 → SearchEnds → Answer SearchEnds
unfolding moved_ends
halved ns l e =
    let fraction = (e.pos.f +f e.neg.f) *f f½ in
    at_param l fraction >>= λ working.
    nearest_of ns working >>= λ closest.
    moved_ends l.direction e fraction working closest.at.point

-- The circle between the last two ends; 02 (f): its contacts' lengths along "are worked out when the circle is made", anew from the finished contacts.
unfoldable pub circle_between : List Float → Line2 → SearchEnds → Answer Inscribed
unfolding closest_lengths
circle_between ns l e =
    at_param l ((e.pos.f +f e.neg.f) *f f½) >>= λ o.
    closest_lengths ns e.neg.p e.pos.p >>= λ along.
    Ok (inscribed o ((e.pos.d +f e.neg.d) *f f½) e.neg.p e.pos.p along.first along.second)

-- the test of the source's loop: the part of the line between the ends is longer than the resolve tolerance
abbrev pub is_wide : Float → Float → SearchEnds → Bool
is_wide resolve len e = lt resolve ((e.pos.f -f e.neg.f) *f len)

-- The source's loop, with as much fuel as one likes. `halving-over` proves that 52 are enough: any more gives the same, and the loop's own test has ended it.
unfoldable pub halving : List Float → Line2 → Float → Float → ℕ → SearchEnds → Answer Inscribed
unfolding halved circle_between
halving ns l resolve len zero e = circle_between ns l e
halving ns l resolve len (suc fuel) e =
    let on = halved ns l e >>= λ next. halving ns l resolve len fuel next in
    cond (is_wide resolve len e) on (circle_between ns l e)

-- "within 52 steps"
abbrev pub most_halvings : ℕ
most_halvings = 52

-- 0.1
abbrev pub tenth : Float
tenth = of_bits binary64 0x3fb9_9999_9999_999a

-- 2 to the power -52
abbrev pub two_to_minus52 : Float
two_to_minus52 = of_bits binary64 0x3cb0_0000_0000_0000

-- "resolve tolerance is general tolerance × 0.1"
abbrev pub resolve_tol : Float → Float
resolve_tol tol = tol *f tenth

-- an end that never moved is the line's own: at(1) and at(0), no distance yet
abbrev pub first_ends : Point2 → Point2 → SearchEnds
first_ends p1 p0 = record { pos = search_end f1 f0 p1; neg = search_end f0 f0 p0 }

-- from the ends of the line on: "The halving is over within 52 steps"
unfoldable pub halved_from : List Float → Line2 → Float → Float → Answer Inscribed
halved_from ns l resolve len =
    at_param l f1 >>= λ p1.
    at_param l f0 >>= λ p0.
    halving ns l resolve len most_halvings (first_ends p1 p0)

-- 10: "a line to be halved: its length times 2 to the power -52 exceeds the resolve tolerance"; the length is watched before
unfoldable pub from_line : List Float → Float → Line2 → Answer Inscribed
unfolding halved_from
from_line ns tol l =
    norm_of l.direction >>= λ len.
    cond (lt (resolve_tol tol) (two_to_minus52 *f len)) (Err TooLong) (halved_from ns l (resolve_tol tol) len)

abbrev pub from_crossing : List Float → Float → Crossing → Answer Inscribed
from_crossing ns tol c = from_line ns tol c.line

-- `try_inscribed`: none where the line has no crossing
unfoldable pub circle_on : List Float → Float → Option Crossing → Answer (Option Inscribed)
circle_on ns tol None = Ok None
circle_on ns tol (Some c) = from_crossing ns tol c >>= λ circle. Ok (Some circle)

unfoldable pub try_inscribed : List Float → Float → Line2 → Answer (Option Inscribed)
unfolding circle_on
try_inscribed ns tol l = crossing_of ns l >>= circle_on ns tol

-- the circle on a line that must have a crossing (8): its halving may be 10 or 12
unfoldable pub inscribed_on : List Float → Float → Line2 → Answer Inscribed
inscribed_on ns tol l = crossing_on ns l >>= from_crossing ns tol
