-- The rounds of `fit_open_edge`: each probes halfway into the gap, refines up to the probe's circle, and draws the camber line on again. Assumes nothing.
use Rattle.std.specs.Prelude.{Bool, false, cond, List, [], ◌∷◌, ℕ, zero, suc, Float, Option, Some, None, Ok, Err}
use Rattle.std.specs.Float.{inf}
use Rattle.std.specs.Float.Ieee.{le}
use Rattle.errors.specs.Answer.{Answer, ◌>>=◌}
use Rattle.points.specs.Points.{dist_of}
use Rattle.points.specs.declared.Point2.{Point2}
use Rattle.runs.specs.Run.{Ending, ended, spent, unfinished, Final}
use Rattle.inscribed.specs.declared.Inscribed.{Inscribed}
use Rattle.refine.specs.Machine.{State, circles_in, End, refine_run}
use Rattle.lists.specs.Ends.{last_pair}
use Rattle.gap.specs.declared.Gap.{Gap}
use Rattle.gap.specs.declared.round.Moved.{Moved}
use Rattle.gap.specs.Gap.{cap_intersection}
use Rattle.gap.specs.Probe.{probed}

-- how a fit ends by itself: with the edge point, or refused
abbrev pub FitEnd : Type 0
FitEnd = Answer Point2

-- an ending, the circles, the outermost last, and the units
pub record Fit : Type 0 where
  pub ending : Ending FitEnd
  pub circles : List Inscribed
  pub units : ℕ

abbrev pub fit : Ending FitEnd → List Inscribed → ℕ → Fit
fit e cs u = record { ending = e; circles = cs; units = u }

-- where the next round starts: the point so far, how far it has moved, the circles and the units
pub record Progress : Type 0 where
  pub point : Point2
  pub drift : Float
  pub circles : List Inscribed
  pub units : ℕ

abbrev pub progress : Point2 → Float → List Inscribed → ℕ → Progress
progress p d cs u = record { point = p; drift = d; circles = cs; units = u }

-- a round ends the fit, or another may follow
pub data Round : Type 0 where
  stops : Fit → Round
  goes : Progress → Round

-- the camber line drawn on again, and how far the point has moved
unfoldable pub moved_point : Gap → Point2 → List Inscribed → Answer Moved
moved_point gap point cs =
    last_pair cs >>= λ end.
    cap_intersection end gap >>= λ next.
    dist_of point next >>= λ drift.
    Ok (record { point = next; drift = drift })

unfoldable pub after_move : List Inscribed → ℕ → Answer Moved → Round
after_move cs u (Err r) = stops (fit (ended (Err r)) cs u)
after_move cs u (Ok m) = goes (progress m.point m.drift cs u)

-- after the refinement: refused or spent, the fit is so too
unfoldable pub after_refined : Gap → Point2 → List Inscribed → ℕ → Ending End → Round
unfolding after_move moved_point
after_refined gap point cs u (ended (Ok done)) = after_move cs u (moved_point gap point cs)
after_refined gap point cs u (ended (Err r)) = stops (fit (ended (Err r)) cs u)
after_refined gap point cs u spent = stops (fit spent cs u)
after_refined gap point cs u unfinished = stops (fit unfinished cs u)

abbrev pub after_out : Gap → Point2 → Final State End → Round
after_out gap point o = after_refined gap point (circles_in o.state) o.units o.ending

-- "a probe without two hits ends the rounds with a result"; "the probes of an edge fit take" no unit
unfoldable pub after_probe : List Float → Float → ℕ → (ℕ → Bool) → Gap → Point2 → List Inscribed → ℕ → Answer (Option Inscribed) → Round
unfolding after_refined
after_probe ns tol slots full gap point cs u (Err r) = stops (fit (ended (Err r)) cs u)
after_probe ns tol slots full gap point cs u (Ok None) = stops (fit (ended (Ok point)) cs u)
after_probe ns tol slots full gap point cs u (Ok (Some c)) = after_out gap point (refine_run ns tol slots full cs (c ∷ []) u)

unfoldable pub round : List Float → Float → ℕ → (ℕ → Bool) → Gap → Point2 → List Inscribed → ℕ → Round
unfolding after_probe
round ns tol slots full gap point cs u = after_probe ns tol slots full gap point cs u (last_pair cs >>= probed ns tol gap)

-- "the infinite start values of .. the drift aren't watched"
abbrev pub first_progress : Point2 → List Inscribed → Progress
first_progress p cs = progress p (inf false) cs 0

-- "at most 20 rounds"
abbrev pub most_rounds : ℕ
most_rounds = 20

-- ---- another follows while the point has moved by more than the general tolerance

unfoldable pub onward : (Progress → Fit) → Round → Fit
onward go (stops f) = f
onward go (goes p) = go p

unfoldable pub rounds : List Float → Float → ℕ → (ℕ → Bool) → Gap → ℕ → Progress → Fit
unfolding round onward
rounds ns tol slots full gap zero p = fit (ended (Ok p.point)) p.circles p.units
rounds ns tol slots full gap (suc left) p =
    let on = onward (rounds ns tol slots full gap left) (round ns tol slots full gap p.point p.circles p.units) in
    cond (le p.drift tol) (fit (ended (Ok p.point)) p.circles p.units) on
