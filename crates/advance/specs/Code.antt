-- What the code of one advance returns. It is the code's own: `march_step` doesn't rest on it. Assumes nothing.
use Rattle.std.specs.Prelude.{Bool, cond, List, ℕ, zero, suc, ◌-◌, Float, Option, Some, None, Ok, Err}
use Rattle.std.specs.Float.Ieee.{lt}
use Rattle.errors.specs.Answer.{Answer}
use Rattle.line2.specs.declared.surface2.SurfacePoint2.{SurfacePoint2}
use Rattle.queries.specs.declared.Crossing.{Crossing}
use Rattle.inscribed.specs.declared.Inscribed.{Inscribed}
use Rattle.halving.specs.Halving.{from_crossing}
use Rattle.refine.specs.Machine.{End, finished}
use Rattle.advance.specs.Advance.{MarchAhead, done, advance_ray, look_ahead, step_of, tried_line}
use Rattle.advance.specs.declared.Advanced.{Advanced}
use Rattle.errors.specs.declared.Refusal.TheVariants.{NoAdvance}

-- the look ahead
abbrev pub listed_ahead : Answer (Option SurfacePoint2) → Answer MarchAhead
listed_ahead (Ok None) = Ok done
listed_ahead (Ok (Some ray)) = Ok (advance_ray ray)
listed_ahead (Err r) = Err r

-- an ending of the march by itself, spent with the number of the fraction that is due, or the next circle; each with the units taken so far
pub data Outcome : Type 0 where
  ending : End → ℕ → Outcome
  out_of_units : ℕ → ℕ → Outcome
  going : Inscribed → ℕ → Outcome

unfoldable pub circle_outcome : ℕ → Answer Inscribed → Outcome
circle_outcome u (Err r) = ending (Err r) u
circle_outcome u (Ok d) = going d u

-- after a crossing was tried: its circle, or the next fraction
unfoldable pub line_outcome : List Float → Float → Outcome → ℕ → Answer (Option Crossing) → Outcome
unfolding circle_outcome
line_outcome ns tol next u (Err r) = ending (Err r) u
line_outcome ns tol next u (Ok None) = next
line_outcome ns tol next u (Ok (Some x)) = circle_outcome u (from_crossing ns tol x)

-- the fractions from number k on, `left` of them; each asks for a unit after the step test
unfoldable pub tries_from : List Float → Float → Inscribed → SurfacePoint2 → (ℕ → Bool) → ℕ → ℕ → ℕ → Outcome
unfolding line_outcome
tries_from ns tol c ray full zero k u = ending (Err NoAdvance) u
tries_from ns tol c ray full (suc left) k u =
    let next = tries_from ns tol c ray full left (suc k) (suc u) in
    let tried = line_outcome ns tol next (suc u) (tried_line ns c ray k) in
    cond (lt (step_of c k) tol) (ending finished u) (cond (full u) (out_of_units k u) tried)

unfoldable pub ahead_outcome : List Float → Float → Inscribed → ℕ → (ℕ → Bool) → ℕ → Answer MarchAhead → Outcome
unfolding tries_from
ahead_outcome ns tol c k full u (Err r) = ending (Err r) u
ahead_outcome ns tol c k full u (Ok done) = ending finished u
ahead_outcome ns tol c k full u (Ok (advance_ray ray)) = tries_from ns tol c ray full (4 - k) k u

-- from fraction number k on
abbrev pub advance_outcome : List Float → Float → Inscribed → ℕ → (ℕ → Bool) → ℕ → Outcome
advance_outcome ns tol c k full u = ahead_outcome ns tol c k full u (look_ahead ns c)

abbrev pub listed_advanced : Advanced → Outcome
listed_advanced (Advanced.Ended e u) = ending e u
listed_advanced (Advanced.Spent k u) = out_of_units k u
listed_advanced (Advanced.Next c u) = going c u

abbrev pub outcome_units : Outcome → ℕ
outcome_units (ending e u) = u
outcome_units (out_of_units k u) = u
outcome_units (going c u) = u
