-- The gap of an open section, and the end of the camber line on it. Assumes nothing.
use Rattle.std.specs.Prelude.{not, ◌&&◌, ◌||◌, cond, List, ◌-◌, length, Float, Option, Some, None, Ok, Err}
use Rattle.std.specs.Float.Ieee.{le}
use Rattle.errors.specs.Answer.{Answer, ◌>>=◌}
use Rattle.points.specs.Numbers.{f0, f1}
use Rattle.points.specs.declared.Point2.{Point2}
use Rattle.line2.specs.Lines.{line_through, at_param}
use Rattle.line2.specs.Rays.{ray_line}
use Rattle.line2.specs.Intersection.{intersection_param}
use Rattle.line2.specs.declared.Line2.{Line2}
use Rattle.line2.specs.declared.LineParams.{LineParams}
use Rattle.curve2.specs.Section.{point_at, is_closed}
use Rattle.lists.specs.Ends.{end_camber_ray}
use Rattle.lists.specs.declared.ends.Pair.{Pair}
use Rattle.gap.specs.declared.Gap.{Gap}
use Rattle.errors.specs.declared.Refusal.TheVariants.{ClosedSection, GapMissed, GapParallel}

-- `open_gap_segment`: the chord from the section's first point to its last. 17: "open edge asked of a closed section"
unfoldable pub gap_of : List Float → Float → Answer Gap
gap_of ns section_tol =
    let a = point_at ns 0 in
    let b = point_at ns (length ns - 2) in
    cond (is_closed ns section_tol) (Err ClosedSection) (line_through a b >>= λ l. Ok (record { a = a; b = b; chord = l }))

-- ---- `end_cap_intersection`: where the camber line, drawn on, meets the gap

-- 19: "camber ray and gap are parallel"; 20: "the ray meets the gap's line at a fraction of 0 or less, or outside the gap"
unfoldable pub cap_point : Line2 → Option LineParams → Answer Point2
cap_point ray None = Err GapParallel
cap_point ray (Some p) = cond (le p.t f0 || not (le f0 p.s && le p.s f1)) (Err GapMissed) (at_param ray p.t)

unfoldable pub cap_intersection : Pair → Gap → Answer Point2
unfolding cap_point
cap_intersection end gap =
    end_camber_ray end >>= λ ray.
    intersection_param (ray_line ray) gap.chord >>= λ met.
    cap_point (ray_line ray) met
