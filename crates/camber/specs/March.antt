-- One march, `extract_half_circles`: "given a line, it finds the crossing and begins with no circle in use". Assumes nothing.
use Rattle.std.specs.Prelude.{Bool, cond, List, [], ◌∷◌, ℕ, suc, ltb, Float, Option, Some, None, Ok, Err}
use Rattle.std.specs.Float.Ieee.{lt}
use Rattle.errors.specs.Answer.{Answer, ◌>>=◌}
use Rattle.errors.specs.Lists.{last_of}
use Rattle.line2.specs.declared.Line2.{Line2}
use Rattle.curve2.specs.Entry.{finer_general}
use Rattle.queries.specs.Crossing.{crossing_on}
use Rattle.camber.specs.Paused.{paused_by}
use Rattle.camber.specs.declared.march.MarchRun.{MarchRun}
use Rattle.camber.specs.declared.state.MarchState.{MarchState}
use Rattle.queries.specs.declared.Crossing.{Crossing}
use Rattle.queries.specs.declared.HitEdges.{HitEdges}
use Rattle.runs.specs.Run.{Move, ends, goes, pays, ended, Final, under_limit, never, whole}
use Rattle.inscribed.specs.Store.{slots_within}
use Rattle.inscribed.specs.declared.Inscribed.{Inscribed}
use Rattle.halving.specs.Halving.{from_crossing, inscribed_on}
use Rattle.refine.specs.Machine.{State, refining, advancing, stopped, circles_in, End, finished, refine_move, measure}
use Rattle.refine.specs.Report.{Called, refused_on_entry, ran, RunReport, reported, listed_run}
use Rattle.circles.specs.Asked.{line_entry}
use Rattle.advance.specs.Advance.{MarchAhead, done, advance_ray, look_ahead, step_of, tried_line}
use Rattle.errors.specs.declared.Refusal.{Refusal}
use Rattle.errors.specs.declared.Refusal.TheVariants.{NoAdvance}

-- After a crossing was tried with fraction number k: its circle waits, the next fraction is due, or 13: "the advance finds no line".
unfoldable pub after_circle : List Inscribed → Answer Inscribed → State
after_circle cs (Err r) = stopped cs r
after_circle cs (Ok d) = refining cs (d ∷ [])

unfoldable pub after_line : List Float → Float → List Inscribed → ℕ → Answer (Option Crossing) → State
unfolding after_circle
after_line ns tol cs k (Err r) = stopped cs r
after_line ns tol cs k (Ok None) = cond (ltb k 3) (advancing cs (suc k)) (stopped cs NoAdvance)
after_line ns tol cs k (Ok (Some x)) = after_circle cs (from_crossing ns tol x)

-- "each crossing tried is one unit, taken after the step test and before the next centre"; the march ends "where the step is below the general tolerance"
unfoldable pub advance_move : List Float → Float → List Inscribed → Inscribed → ℕ → Answer MarchAhead → Move State End
unfolding after_line
advance_move ns tol cs c k (Err r) = ends (Err r)
advance_move ns tol cs c k (Ok done) = ends finished
advance_move ns tol cs c k (Ok (advance_ray ray)) = cond (lt (step_of c k) tol) (ends finished) (pays (after_line ns tol cs k (tried_line ns c ray k)))

-- "when none waits, the advance from the last brings the next, the end or a refusal"
unfoldable pub march_step : List Float → Float → ℕ → State → Move State End
unfolding refine_move advance_move last_of
march_step ns tol slots (refining cs []) = goes (advancing cs 0)
march_step ns tol slots (refining cs (b ∷ ws)) = refine_move ns tol slots cs b ws
march_step ns tol slots (advancing [] k) = ends finished
march_step ns tol slots (advancing (c ∷ cs) k) = advance_move ns tol (c ∷ cs) (last_of c cs) k (look_ahead ns (last_of c cs))
march_step ns tol slots (stopped cs r) = ends (Err r)

-- the march from a state on, with u units taken
abbrev pub march_run : List Float → Float → ℕ → (ℕ → Bool) → State → ℕ → Final State End
march_run ns tol slots full s u = whole (march_step ns tol slots) (measure slots) full s u

-- ---- a march handed in: a section with its tolerance, a general tolerance, a line, and a store with the slot limit that the entry has

pub record Marched : Type 0 where
  pub section : List Float
  pub section_tol : Float
  pub tol : Float
  pub line : Line2
  pub store : List Float
  pub slot_limit : ℕ

-- the entry tests; a march is held to 23
abbrev pub march_entry : Marched → Answer (Unit {0})
march_entry m = line_entry m.section m.section_tol m.tol m.line (finer_general m.section_tol m.tol)

-- the start's crossing (8), and its circle (10, 12)
abbrev pub start_of : Marched → Answer Inscribed
start_of m = inscribed_on m.section m.tol m.line

-- "Its circle waits first."
abbrev pub started_run : Marched → (ℕ → Bool) → Inscribed → Final State End
started_run m full c = march_run m.section m.tol (slots_within m.slot_limit m.store) full (refining [] (c ∷ [])) 0

-- refused at its start, a run is no refusal on entry: "count 0 and units 0 come with it"
abbrev pub not_started : Marched → Refusal → RunReport
not_started m r = record { ending = ended (Err r); count = 0; units = 0; store = m.store }

unfoldable pub after_start : Marched → (ℕ → Bool) → Answer Inscribed → RunReport
after_start m full (Err r) = not_started m r
after_start m full (Ok c) = reported m.store (started_run m full c)

unfoldable pub march_after : Marched → (ℕ → Bool) → Answer (Unit {0}) → Called (Unit {0})
unfolding after_start
march_after m full (Err r) = refused_on_entry r m.store
march_after m full (Ok passed) = ran (after_start m full (start_of m))

-- ---- the edges that the start hits

unfoldable pub found_edges : Answer Crossing → Option HitEdges
found_edges (Err r) = None
found_edges (Ok x) = Some x.edges

-- 02 (a): "so does a single march, refused or not, once its start's crossing is found"
abbrev pub march_edges : Marched → Option HitEdges
march_edges m = found_edges (march_entry m >>= λ passed. crossing_on m.section m.line)

-- under a limit, and the plain march without one
abbrev pub march_of : Marched → ℕ → Called (Unit {0})
march_of m limit = march_after m (under_limit limit) (march_entry m)

abbrev pub plain_march : Marched → Called (Unit {0})
plain_march m = march_after m never (march_entry m)

-- the circles that it accepts, in its order
unfoldable pub marched_from : Marched → (ℕ → Bool) → Answer Inscribed → List Inscribed
marched_from m full (Err r) = []
marched_from m full (Ok c) = circles_in (started_run m full c).state

abbrev pub marched_circles : Marched → (ℕ → Bool) → List Inscribed
marched_circles m full = marched_from m full (march_entry m >>= λ passed. start_of m)

-- ---- the state that it hands out

unfoldable pub state_after : Marched → (ℕ → Bool) → Answer Inscribed → Option MarchState
state_after m full (Err r) = None
state_after m full (Ok c) = let o = started_run m full c in paused_by o.ending o.state

-- "A spent march .. also returns a state"
abbrev pub march_state : Marched → ℕ → Option MarchState
march_state m limit = state_after m (under_limit limit) (march_entry m >>= λ passed. start_of m)

-- ---- what a march tells: the run, the edges of its start, and its state

pub record MarchTold : Type 0 where
  pub called : Called (Unit {0})
  pub edges : Option HitEdges
  pub state : Option MarchState

abbrev pub march_told : Marched → ℕ → MarchTold
march_told m limit = record { called = march_of m limit; edges = march_edges m; state = march_state m limit }

abbrev pub listed_march : Answer MarchRun → List Float → MarchTold
listed_march (Ok m) store = record { called = ran (listed_run m.run store); edges = m.edges; state = m.state }
listed_march (Err r) store = record { called = refused_on_entry r store; edges = None; state = None }
