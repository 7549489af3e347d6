-- The machine of refinements and marches: its states, its moves while circles wait, and the run of a refinement. Assumes nothing.
use Rattle.std.specs.Prelude.{Bool, cond, List, [], ◌∷◌, ◌++◌, ℕ, zero, suc, ◌+◌, ◌-◌, ◌*◌, leb, length, Float, Option, Some, None, Ok, Err}
use Rattle.errors.specs.Answer.{Answer}
use Rattle.errors.specs.Lists.{last_of}
use Rattle.runs.specs.Run.{Move, ends, goes, pays, Final, whole}
use Rattle.circles.specs.Trial.{trial}
use Rattle.inscribed.specs.declared.Inscribed.{Inscribed}
use Rattle.errors.specs.declared.Refusal.{Refusal}
use Rattle.errors.specs.declared.Refusal.TheVariants.{StackFull, StoreFull}

-- "it holds the list, at first the old circles, the waiting circles, and the units". Refining, with those that wait, the newest first;
-- advancing from the last circle, with the number of the fraction that is due; or stopped, by a refusal that came after a unit.
pub data State : Type 0 where
  refining : List Inscribed → List Inscribed → State
  advancing : List Inscribed → ℕ → State
  stopped : List Inscribed → Refusal → State

abbrev pub circles_in : State → List Inscribed
circles_in (refining cs ws) = cs
circles_in (advancing cs k) = cs
circles_in (stopped cs r) = cs

-- how a run ends by itself: finished, or refused
abbrev pub End : Type 0
End = Answer (Unit {0})

abbrev pub finished : End
finished = Ok tt

-- how many circles may wait: 16 for "a 65th circle"
abbrev pub most_waiting : ℕ
most_waiting = 64

-- What the trial gives, with w waiting and n accepted: "A circle it adds waits too, or 16. If it adds none, the tried one is accepted behind the last, or 15 if no slot is free."
unfoldable pub with_room : ℕ → ℕ → ℕ → Answer (Option Inscribed) → Answer (Option Inscribed)
with_room slots n w (Err r) = Err r
with_room slots n w (Ok (Some d)) = cond (leb most_waiting w) (Err StackFull) (Ok (Some d))
with_room slots n w (Ok None) = cond (leb slots n) (Err StoreFull) (Ok None)

abbrev pub after_room : List Inscribed → Inscribed → List Inscribed → Answer (Option Inscribed) → State
after_room cs b ws (Err r) = stopped cs r
after_room cs b ws (Ok (Some d)) = refining cs (d ∷ (b ∷ ws))
after_room cs b ws (Ok None) = refining (cs ++ (b ∷ [])) ws

-- the state after the trial of b, the newest of b and ws, against the last of the list
unfoldable pub after_trial : ℕ → List Inscribed → Inscribed → List Inscribed → Answer (Option Inscribed) → State
after_trial slots cs b ws r = after_room cs b ws (with_room slots (length cs) (suc (length ws)) r)

-- "While any waits, the newest is tried against the *current* last. An empty list accepts it without a unit, or 15 if the store has no slot. Else comes a unit, or 14 at the limit, then the trial, which may refuse."
unfoldable pub refine_move : List Float → Float → ℕ → List Inscribed → Inscribed → List Inscribed → Move State End
unfolding after_trial last_of
refine_move ns tol slots [] b ws = cond (leb slots 0) (ends (Err StoreFull)) (goes (refining (b ∷ []) ws))
refine_move ns tol slots (c ∷ cs) b ws = pays (after_trial slots (c ∷ cs) b ws (trial ns tol (last_of c cs) b))

-- The measure that falls at each move. An accepted circle counts for more than all that can wait or be tried before the next one.
abbrev pub waiting_left : List Inscribed → ℕ
waiting_left [] = 80
waiting_left (b ∷ ws) = 69 - length ws

unfoldable pub measure : ℕ → State → ℕ
measure slots (refining cs ws) = suc ((slots - length cs) * 100 + waiting_left ws)
measure slots (advancing cs k) = suc ((slots - length cs) * 100 + (70 + (3 - k)))
measure slots (stopped cs r) = zero

-- ---- the run of a refinement

-- "None waits: finished."
unfoldable pub refine_step : List Float → Float → ℕ → State → Move State End
unfolding refine_move
refine_step ns tol slots (refining cs []) = ends finished
refine_step ns tol slots (refining cs (b ∷ ws)) = refine_move ns tol slots cs b ws
refine_step ns tol slots (advancing cs k) = ends finished
refine_step ns tol slots (stopped cs r) = ends (Err r)

-- the run from a list and waiting circles on, with u units taken; `full` says where no further unit may be taken
abbrev pub refine_run : List Float → Float → ℕ → (ℕ → Bool) → List Inscribed → List Inscribed → ℕ → Final State End
refine_run ns tol slots full cs ws u = whole (refine_step ns tol slots) (measure slots) full (refining cs ws) u
