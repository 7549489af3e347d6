-- What a march holds can be handed in again. Assumes nothing.
use mathlib.Core.Path.{◌≡◌, refl}
use mathlib.Core.Bool.{Bool, true, false, cond}
use mathlib.Core.List.{List, [], ◌∷◌}
use Rattle.std.specs.Prelude.{Option, Some, None, Ok, Err}
use Prim.Native.Nat.{ℕ, suc, ◌<◌}
use native.Mathlib.Omega.{arith}
use borrow.Author.Tests.{ltb-true}
use lib.Dec.{ltb}
use lib.Ieee.{Float, lt}
use Rattle.errors.specs.Answer.{Answer}
use Rattle.errors.specs.Lists.{last_of}
use Rattle.curve2.specs.Entry.{IsSection}
use Rattle.queries.specs.declared.Crossing.{Crossing}
use Rattle.runs.specs.Run.{Move, ends, goes, pays, whole}
use Rattle.runs.proofs.LimitLaws.{run_holds}
use Rattle.inscribed.specs.Store.{bad_circle, any_bad}
use Rattle.inscribed.specs.declared.Inscribed.{Inscribed}
use Rattle.halving.specs.Halving.{from_crossing}
use Rattle.circles.proofs.TrialLaws.{crossing_passes}
use Rattle.refine.specs.Machine.{State, refining, advancing, stopped, End, finished, measure}
use Rattle.refine.proofs.MoveLaws.{no_goes, no_pays, goes_no_pays}
use Rattle.refine.proofs.GoodLaws.{Good, move_good}
use Rattle.advance.specs.Advance.{MarchAhead, done, advance_ray, look_ahead, step_of, tried_line}
use Rattle.camber.specs.March.{after_circle, after_line, advance_move, march_step, march_run}
use Rattle.camber.proofs.MarchMachine.{advance-goes}
use Rattle.errors.specs.declared.Refusal.TheVariants.{NoAdvance}

module _ (ns : List Float) (section_tol : Float) (sec : IsSection ns section_tol) (tol : Float) (slots : ℕ) where
  circle_good : (cs : List Inscribed) (k : ℕ) (a : Answer Inscribed) → ((d : Inscribed) → a ≡ Ok d → bad_circle d ≡ false) → Good (advancing cs k) → Good (after_circle cs a)
  unfolding after_circle any_bad
  circle_good cs k (Err n) e h = record { circles = h.circles; waiting = refl; few = omega arith; due = omega arith }
  circle_good cs k (Ok d) e h = record { circles = h.circles; waiting = rw (e d refl) refl; few = omega arith; due = omega arith }

  line_good : (cs : List Inscribed) (k : ℕ) (a : Answer (Option Crossing)) → Good (advancing cs k) → Good (after_line ns tol cs k a)
  unfolding after_line any_bad
  line_good cs k (Err n) h = record { circles = h.circles; waiting = refl; few = omega arith; due = omega arith }
  line_good cs k (Ok None) h = go (ltb k 3) (ltb-true k 3)
    where
      go : (b : Bool) → (b ≡ true → k < 3) → Good (cond b (advancing cs (suc k)) (stopped cs NoAdvance))
      go true e = record { circles = h.circles; waiting = refl; few = omega arith; due = omega (arith, e refl) }
      go false e = record { circles = h.circles; waiting = refl; few = omega arith; due = omega arith }
  line_good cs k (Ok (Some x)) h = circle_good cs k (from_crossing ns tol x) (λ d e. crossing_passes ns section_tol sec tol x d e) h

  advance_good : (cs : List Inscribed) (c : Inscribed) (k : ℕ) (a : MarchAhead) (t : State) → advance_move ns tol cs c k (Ok a) ≡ pays t → Good (advancing cs k) → Good t
  unfolding advance_move
  advance_good cs c k done t p h = no_pays p
  advance_good cs c k (advance_ray ray) t p h = go (lt (step_of c k) tol) p
    where
      go : (b : Bool) → cond {A = Move State End} b (ends finished) (pays (after_line ns tol cs k (tried_line ns c ray k))) ≡ pays t → Good t
      go true q = no_pays q
      go false q = let e : t ≡ after_line ns tol cs k (tried_line ns c ray k) = cc in rw e (line_good cs k (tried_line ns c ray k) h)

  ahead_good : (cs : List Inscribed) (c : Inscribed) (k : ℕ) (a : Answer MarchAhead) (t : State) → advance_move ns tol cs c k a ≡ pays t → Good (advancing cs k) → Good t
  unfolding advance_move
  ahead_good cs c k (Err n) t p h = no_pays p
  ahead_good cs c k (Ok a) t p h = advance_good cs c k a t p h

  pub march_good_goes : (s t : State) → march_step ns tol slots s ≡ goes t → Good s → Good t
  unfolding march_step any_bad
  march_good_goes (refining cs []) t p h = let e : t ≡ advancing cs 0 = cc in rw e (record { circles = h.circles; waiting = refl; few = omega arith; due = omega arith })
  march_good_goes (refining cs (b ∷ ws)) t p h = (move_good ns section_tol sec tol slots cs b ws t h).0 p
  march_good_goes (advancing [] k) t p h = no_goes p
  march_good_goes (advancing (c ∷ cs) k) t p h = advance-goes ns tol slots (c ∷ cs) (last_of c cs) k (look_ahead ns (last_of c cs)) t p
  march_good_goes (stopped cs m) t p h = no_goes p

  pub march_good_pays : (s t : State) → march_step ns tol slots s ≡ pays t → Good s → Good t
  unfolding march_step
  march_good_pays (refining cs []) t p h = goes_no_pays p
  march_good_pays (refining cs (b ∷ ws)) t p h = (move_good ns section_tol sec tol slots cs b ws t h).1 p
  march_good_pays (advancing [] k) t p h = no_pays p
  march_good_pays (advancing (c ∷ cs) k) t p h = ahead_good (c ∷ cs) (last_of c cs) k (look_ahead ns (last_of c cs)) t p h
  march_good_pays (stopped cs m) t p h = no_pays p

  pub march_good : (full : ℕ → Bool) (s : State) (u : ℕ) → Good s → Good (march_run ns tol slots full s u).state
  unfolding whole
  march_good full s u h = run_holds (march_step ns tol slots) full Good march_good_goes march_good_pays (suc (measure slots s)) s u h
