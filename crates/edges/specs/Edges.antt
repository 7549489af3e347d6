-- `is_open_at_end` and `fit_open_edge`, by count, units and the whole store. Assumes nothing.
use Rattle.std.specs.Prelude.{Bool, false, cond, List, reverse, ℕ, ◌-◌, length, Float, Ok, Err}
use Rattle.std.specs.Float.Ieee.{lt}
use Rattle.errors.specs.Answer.{Answer, ◌>>=◌}
use Rattle.points.specs.Numbers.{f0}
use Rattle.points.specs.declared.Point2.{Point2}
use Rattle.line2.specs.Lines.{line_projection}
use Rattle.line2.specs.declared.Line2.{Line2}
use Rattle.curve2.specs.Entry.{bad_general, finer_general, section_entry}
use Rattle.curve2.specs.Section.{point_at, is_closed}
use Rattle.runs.specs.Run.{ended, under_limit}
use Rattle.inscribed.specs.Store.{circles_of, stored, slots, bad_store, bad_store_count}
use Rattle.inscribed.specs.declared.Inscribed.{Inscribed}
use Rattle.refine.specs.Report.{Report, Called, refused_on_entry, ran}
use Rattle.lists.specs.Ends.{last_pair, clip_line}
use Rattle.lists.specs.declared.ends.Pair.{Pair}
use Rattle.gap.specs.Gap.{gap_of, cap_intersection}
use Rattle.gap.specs.Rounds.{Fit, fit, most_rounds, first_progress, rounds}
use Rattle.edges.specs.declared.fitting.Start.{Start}

-- what is handed in: a section with its tolerance, a general tolerance, a store with its stated count, and which end is meant
pub record EdgeInput : Type 0 where
  pub section : List Float
  pub section_tol : Float
  pub tol : Float
  pub store : List Float
  pub count : ℕ
  pub at_front : Bool

-- with whether the general tolerance is finer than the section's (23): `is_open_at_end` isn't held to that
unfoldable pub edge_entry : EdgeInput → Bool → Answer (Unit {0})
edge_entry i finer =
    section_entry i.section i.section_tol
    (record { number = bad_store i.store i.count; tolerance = bad_general i.tol; finer = finer; room = bad_store_count i.store i.count; state = false })

-- "at the front the order is turned first": the end that is meant comes last
abbrev pub end_last : Bool → List Inscribed → List Inscribed
end_last at_front cs = cond at_front (reverse cs) cs

-- ---- `is_open_at_end`

-- both ends of the section lie beyond a line; the second is worked out only where the first does
unfoldable pub beyond_line : List Float → Line2 → Answer Bool
beyond_line ns clip =
    line_projection clip (point_at ns 0) >>= λ a.
    let both = line_projection clip (point_at ns (length ns - 2)) >>= λ b. Ok (lt f0 b) in
    cond (lt f0 a) both (Ok false)

unfoldable pub ends_beyond : List Float → List Inscribed → Answer Bool
unfolding beyond_line
ends_beyond ns cs = last_pair cs >>= λ end. clip_line end >>= beyond_line ns

-- "says no for a closed section before it counts circles"
unfoldable pub open_at_end : EdgeInput → Answer Bool
unfolding ends_beyond
open_at_end i =
    edge_entry i false >>= λ passed.
    cond (is_closed i.section i.section_tol) (Ok false) (ends_beyond i.section (end_last i.at_front (circles_of i.store i.count)))

-- ---- `fit_open_edge`

-- "7, then the clip line, then 17", then the first point
unfoldable pub start_at_end : List Float → Float → Pair → Answer Start
start_at_end ns section_tol end =
    clip_line end >>= λ clip.
    gap_of ns section_tol >>= λ gap.
    cap_intersection end gap >>= λ point.
    Ok (record { gap = gap; point = point })

unfoldable pub fit_start : List Float → Float → List Inscribed → Answer Start
unfolding start_at_end
fit_start ns section_tol cs = last_pair cs >>= start_at_end ns section_tol

unfoldable pub fit_from : List Float → Float → ℕ → (ℕ → Bool) → List Inscribed → Answer Start → Fit
fit_from ns tol slots full cs (Err r) = fit (ended (Err r)) cs 0
fit_from ns tol slots full cs (Ok s) = rounds ns tol slots full s.gap most_rounds (first_progress s.point cs)

-- "and turned back at every ending"; "later slots untouched"
unfoldable pub fit_reported : Bool → List Float → Fit → Report Point2
fit_reported at_front old f = record { ending = f.ending; count = length f.circles; units = f.units; store = stored (end_last at_front f.circles) old }

-- after the entry tests: the order turned, the fit, the order turned back
unfoldable pub fitted : List Float → Float → Float → ℕ → (ℕ → Bool) → Bool → List Float → ℕ → Report Point2
unfolding fit_from fit_reported
fitted ns section_tol tol slots full at_front old count =
    let cs = end_last at_front (circles_of old count) in
    fit_reported at_front old (fit_from ns tol slots full cs (fit_start ns section_tol cs))

unfoldable pub fit_after : EdgeInput → (ℕ → Bool) → Answer (Unit {0}) → Called Point2
unfolding fitted
fit_after i full (Err r) = refused_on_entry r i.store
fit_after i full (Ok passed) = ran (fitted i.section i.section_tol i.tol (slots i.store) full i.at_front i.store i.count)

abbrev pub fit_of : EdgeInput → ℕ → Called Point2
fit_of i limit = fit_after i (under_limit limit) (edge_entry i (finer_general i.section_tol i.tol))
