-- The circles of a finished march thinned, in their store, as a run counted in units. The rule:
--   Go from the front: a circle between the first and last is dropped exactly if the trial of the circle behind it against the last kept one adds
--   nothing, and each trial is one unit. First and last circle remain. Kept circles move up without gaps, freed slots become zero, and a later
--   refinement writes into them. Entry tests are a refinement's, without the offered circle; under two circles nothing happens after them. A store
--   holds 1,024 circles at most. A spent limit, or a refusal inside a trial, leaves the whole store as it was, with the stated count and the units taken.
-- Assumes nothing.
use Rattle.std.specs.Prelude.{Bool, false, List, [], ◌∷◌, ◌++◌, ℕ, zero, suc, ◌-◌, ◌*◌, length, replicate, drop, Float, Option, Some, None, Ok, Err}
use Rattle.errors.specs.Answer.{Answer}
use Rattle.errors.specs.Lists.{last_of}
use Rattle.errors.specs.declared.Refusal.{Refusal}
use Rattle.points.specs.Numbers.{f0}
use Rattle.curve2.specs.Entry.{bad_general, finer_general, section_entry}
use Rattle.runs.specs.Run.{Move, ends, goes, pays, Ending, ended, Final, under_limit, never, whole}
use Rattle.circles.specs.Trial.{trial}
use Rattle.inscribed.specs.Store.{width, circles_of, all_numbers, bad_store, bad_store_count}
use Rattle.inscribed.specs.declared.Inscribed.{Inscribed}
use Rattle.refine.specs.Machine.{End, finished}
use Rattle.refine.specs.Report.{Called, refused_on_entry, ran, RunReport}

-- ---- which circles are kept

-- the circles kept so far, and those that are still to come; or a trial refused
pub data ThinState : Type 0 where
  thinning : List Inscribed → List Inscribed → ThinState
  trial_refused : Refusal → ThinState

-- "a circle between the first and last is dropped exactly if the trial of the circle behind it against the last kept one adds nothing":
-- b, with cs behind it, after that trial
unfoldable pub after_pair : List Inscribed → Inscribed → List Inscribed → Answer (Option Inscribed) → ThinState
after_pair ks b cs (Err r) = trial_refused r
after_pair ks b cs (Ok None) = thinning ks cs
after_pair ks b cs (Ok (Some d)) = thinning (ks ++ (b ∷ [])) cs

-- "Go from the front"; "First and last circle remain"; "each trial is one unit"
unfoldable pub thin_step : List Float → Float → ThinState → Move ThinState End
unfolding after_pair last_of
thin_step ns tol (thinning ks []) = ends finished
thin_step ns tol (thinning [] (c ∷ cs)) = goes (thinning (c ∷ []) cs)
thin_step ns tol (thinning (k ∷ ks) (c ∷ [])) = goes (thinning ((k ∷ ks) ++ (c ∷ [])) [])
thin_step ns tol (thinning (k ∷ ks) (b ∷ (c ∷ cs))) = pays (after_pair (k ∷ ks) b (c ∷ cs) (trial ns tol (last_of k ks) c))
thin_step ns tol (trial_refused r) = ends (Err r)

-- the measure that falls at each move
unfoldable pub thin_measure : ThinState → ℕ
thin_measure (thinning ks cs) = suc (length cs)
thin_measure (trial_refused r) = zero

-- the thinning of a list; `full` says where no further unit may be taken
abbrev pub thin_run : List Float → Float → (ℕ → Bool) → List Inscribed → Final ThinState End
thin_run ns tol full cs = whole (thin_step ns tol) thin_measure full (thinning [] cs) 0

abbrev pub kept_in : ThinState → List Inscribed
kept_in (thinning ks cs) = ks
kept_in (trial_refused r) = []

-- ---- what a store with n circles in use holds afterwards

-- "Kept circles move up without gaps, freed slots become zero": +0 in all nine numbers. What stood behind the stated count stays.
unfoldable pub with_kept : List Inscribed → ℕ → List Float → List Float
with_kept ks n old = all_numbers ks ++ (replicate (width * (n - length ks)) f0 ++ drop (width * n) old)

-- "A spent limit, or a refusal inside a trial, leaves the whole store as it was"
unfoldable pub thin_reported : List Float → ℕ → List Inscribed → ℕ → Ending End → RunReport
unfolding with_kept
thin_reported old n ks u (ended (Ok done)) = record { ending = ended finished; count = length ks; units = u; store = with_kept ks n old }
thin_reported old n ks u other = record { ending = other; count = n; units = u; store = old }

abbrev pub thin_report : List Float → ℕ → Final ThinState End → RunReport
thin_report old n o = thin_reported old n (kept_in o.state) o.units o.ending

-- ---- the call

-- what is handed in: a section with its tolerance, a general tolerance, and a store with its stated count
pub record Unthinned : Type 0 where
  pub section : List Float
  pub section_tol : Float
  pub tol : Float
  pub store : List Float
  pub count : ℕ

-- "Entry tests are a refinement's": 2 of the circles in use alone, since none is offered. A store holds 1,024 circles at most.
unfoldable pub thin_entry : Unthinned → Answer (Unit {0})
thin_entry t =
    section_entry t.section t.section_tol
    (record { number = bad_store t.store t.count; tolerance = bad_general t.tol; finer = finer_general t.section_tol t.tol; room = bad_store_count t.store t.count; state = false })

unfoldable pub thin_after : Unthinned → (ℕ → Bool) → Answer (Unit {0}) → Called (Unit {0})
unfolding thin_reported
thin_after t full (Err r) = refused_on_entry r t.store
thin_after t full (Ok passed) = ran (thin_report t.store t.count (thin_run t.section t.tol full (circles_of t.store t.count)))

unfoldable pub thinned : Unthinned → (ℕ → Bool) → Called (Unit {0})
unfolding thin_after
thinned t full = thin_after t full (thin_entry t)

-- under a limit, and the plain thinning without one
abbrev pub thin_of : Unthinned → ℕ → Called (Unit {0})
thin_of t limit = thinned t (under_limit limit)

abbrev pub plain_thinning : Unthinned → Called (Unit {0})
plain_thinning t = thinned t never
