-- The loop of a march: a refinement while any waits, then an advance from the fraction that is due, and what is left of the march gives the whole. Assumes nothing.
use mathlib.Core.Path.{◌≡◌, refl, ap, ◌∙◌}
use mathlib.Core.Bool.{Bool, true, false, cond}
use mathlib.Core.List.{List, [], ◌∷◌, ◌++◌}
use Rattle.std.specs.Prelude.{Option, Some, None, Ok, Err}
use Prim.Native.Nat.{ℕ, zero, suc, ◌+◌, ◌-◌, ◌≤◌, ◌<◌}
use native.Mathlib.Omega.{arith}
use borrow.Author.Tests.{lt-ltb, le-ltb}
use lib.Dec.{ltb}
use lib.ListN.{length}
use lib.Ieee.{Float, lt}
use Rattle.errors.specs.Answer.{Answer}
use Rattle.errors.specs.Lists.{last_of}
use Rattle.line2.specs.declared.surface2.SurfacePoint2.{SurfacePoint2}
use Rattle.queries.specs.declared.Crossing.{Crossing}
use Rattle.runs.specs.Run.{ends, pays, ended, spent, Final, final_of, under_limit, whole}
use Rattle.runs.proofs.RunLaws.{whole_ends, whole_goes, whole_pays, whole_spent}
use Rattle.runs.proofs.LimitLaws.{finishes, run_holds}
use Rattle.runs.proofs.SequelLaws.{Sequel, sequel}
use Rattle.inscribed.specs.declared.Inscribed.{Inscribed}
use Rattle.halving.specs.Halving.{from_crossing}
use Rattle.refine.specs.Machine.{State, refining, advancing, stopped, circles_in, End, finished, measure, refine_step, refine_run}
use Rattle.refine.specs.Code.{due_in}
use Rattle.refine.proofs.MoveLaws.{refine_falls}
use Rattle.refine.proofs.RefinedLaws.{refined_done}
use Rattle.advance.specs.Advance.{MarchAhead, done, advance_ray, look_ahead, step_of, tried_line}
use Rattle.camber.specs.March.{after_circle, after_line, advance_move, march_step, march_run}
use Rattle.advance.specs.Code.{Outcome, ending, out_of_units, going, circle_outcome, line_outcome, tries_from, ahead_outcome, advance_outcome}
use Rattle.camber.proofs.MarchMachine.{march_falls, Refines, march_alike, refines_goes, refines_pays}
use Rattle.errors.specs.declared.Refusal.{Refusal}
use Rattle.errors.specs.declared.Refusal.TheVariants.{NoAdvance}

module _ (ns : List Float) (tol : Float) (slots limit : ℕ) where
  abbrev full : ℕ → Bool
  full = under_limit limit

  abbrev pub marched : State → ℕ → Final State End
  marched s u = march_run ns tol slots full s u

  -- ---- one advance

  -- a run that ended by itself, with the circles cs
  pub record EndedWith (cs : List Inscribed) (e : End) (u : ℕ) (o : Final State End) : Type 0 where
    pub ends_so : o.ending ≡ ended e
    pub holds_these : circles_in o.state ≡ cs
    pub after : o.units ≡ u

  -- what is left of the march after it
  abbrev pub Led : List Inscribed → Final State End → Outcome → Type 0
  Led cs o (ending e u) = EndedWith cs e u o
  Led cs o (out_of_units k u) = o ≡ final_of spent (advancing cs k) u
  Led cs o (going d u) = o ≡ marched (refining cs (d ∷ [])) u

  ended_so : (cs : List Inscribed) (s : State) (u : ℕ) (e : End) → march_step ns tol slots s ≡ ends e → circles_in s ≡ cs → EndedWith cs e u (marched s u)
  ended_so cs s u e p c = let w = whole_ends (march_step ns tol slots) (measure slots) (march_falls ns tol slots) full s u e p in rw w (record { ends_so = refl; holds_these = c; after = refl })

  over_so : (cs : List Inscribed) (n : Refusal) (u : ℕ) → EndedWith cs (Err n) u (marched (stopped cs n) u)
  unfolding march_step
  over_so cs n u = ended_so cs (stopped cs n) u (Err n) refl refl

  circle_led : (cs : List Inscribed) (u : ℕ) (a : Answer Inscribed) → Led cs (marched (after_circle cs a) u) (circle_outcome u a)
  unfolding after_circle circle_outcome
  circle_led cs u (Err n) = over_so cs n u
  circle_led cs u (Ok d) = refl

  module _ (c₀ : Inscribed) (ds : List Inscribed) where
    abbrev cs : List Inscribed
    cs = c₀ ∷ ds

    abbrev c : Inscribed
    c = last_of c₀ ds

    module _ (ray : SurfacePoint2) (is : look_ahead ns c ≡ Ok (advance_ray ray)) where
      step_at : (k : ℕ) → march_step ns tol slots (advancing cs k) ≡ cond (lt (step_of c k) tol) (ends finished) (pays (after_line ns tol cs k (tried_line ns c ray k)))
      unfolding march_step advance_move
      step_at k = rw is

      -- one try, given what the next fractions bring
      line_led : (k u : ℕ) (next : Outcome) (a : Answer (Option Crossing)) → Led cs (marched (cond (ltb k 3) (advancing cs (suc k)) (stopped cs NoAdvance)) u) next
          → Led cs (marched (after_line ns tol cs k a) u) (line_outcome ns tol next u a)
      unfolding after_line line_outcome
      line_led k u next (Err n) h = over_so cs n u
      line_led k u next (Ok None) h = h
      line_led k u next (Ok (Some x)) h = circle_led cs u (from_crossing ns tol x)

      try_led : (left k u : ℕ) → Led cs (marched (cond (ltb k 3) (advancing cs (suc k)) (stopped cs NoAdvance)) (suc u)) (tries_from ns tol c ray full left (suc k) (suc u))
          → Led cs (marched (advancing cs k) u) (tries_from ns tol c ray full (suc left) k u)
      unfolding tries_from
      try_led left k u n = go (lt (step_of c k) tol) refl (full u) refl
        where
          go : (b : Bool) → lt (step_of c k) tol ≡ b → (f : Bool) → full u ≡ f
              → Led cs (marched (advancing cs k) u) (cond b (ending finished u) (cond f (out_of_units k u) (line_outcome ns tol (tries_from ns tol c ray full left (suc k) (suc u)) (suc u) (tried_line ns c ray k))))
          go true p f q = ended_so cs (advancing cs k) u finished (step_at k ∙ rw p) refl
          go false p true q = whole_spent (march_step ns tol slots) (measure slots) (march_falls ns tol slots) full (advancing cs k) u (after_line ns tol cs k (tried_line ns c ray k)) (step_at k ∙ rw p) q
          go false p false q =
              let paid = whole_pays (march_step ns tol slots) (measure slots) (march_falls ns tol slots) full (advancing cs k) u (after_line ns tol cs k (tried_line ns c ray k)) (step_at k ∙ rw p) q in
              rw paid (line_led k (suc u) (tries_from ns tol c ray full left (suc k) (suc u)) (tried_line ns c ray k) n)

      tries_led : (left k u : ℕ) → left + k ≡ 3 → Led cs (marched (advancing cs k) u) (tries_from ns tol c ray full (suc left) k u)
      tries_led zero k u h = try_led zero k u (rw (le-ltb k 3 (omega arith)) (unfold tries_from in over_so cs NoAdvance (suc u)))
      tries_led (suc left) k u h = try_led (suc left) k u (rw (lt-ltb k 3 (omega arith)) (tries_led left (suc k) (suc u) (omega arith)))

    -- from the fraction that is due
    pub advance_led : (k : ℕ) → k < 4 → (u : ℕ) → Led cs (marched (advancing cs k) u) (advance_outcome ns tol c k full u)
    unfolding ahead_outcome march_step advance_move
    advance_led k h u = go (look_ahead ns c) refl
      where
        go : (a : Answer MarchAhead) → look_ahead ns c ≡ a → Led cs (marched (advancing cs k) u) (ahead_outcome ns tol c k full u a)
        go (Err n) e = ended_so cs (advancing cs k) u (Err n) (rw e) refl
        go (Ok done) e = ended_so cs (advancing cs k) u finished (rw e) refl
        go (Ok (advance_ray ray)) e = let four : 4 - k ≡ suc (3 - k) = omega (arith, h) in rw four (tries_led ray e (3 - k) k u (omega (arith, h)))

  -- ---- one refinement, while circles wait

  module _ (cs ws : List Inscribed) (u : ℕ) (fits : length cs ≤ slots) (within : u ≤ limit) where
    abbrev start : State
    start = refining cs ws

    abbrev refined : Final State End
    refined = refine_run ns tol slots full cs ws u

    abbrev fuel : ℕ
    fuel = suc (measure slots start)

    march_sequel : Sequel (refine_step ns tol slots) (march_step ns tol slots) (measure slots) (march_falls ns tol slots) full finished Refines (march_alike ns tol slots) (refines_goes ns tol slots) (refines_pays ns tol slots) start u refined
    unfolding whole
    march_sequel = sequel (refine_step ns tol slots) (march_step ns tol slots) (measure slots) (march_falls ns tol slots) full finished Refines (march_alike ns tol slots) (refines_goes ns tol slots) (refines_pays ns tol slots) fuel start u tt

    -- the march goes on with an advance
    pub refined_on : (newer : List Inscribed) (b : Inscribed) → ws ≡ newer ++ (b ∷ []) → refined.ending ≡ ended finished → marched start u ≡ marched (advancing (circles_in refined.state) 0) refined.units
    refined_on newer b oldest e =
        march_sequel.goes_on e
        ∙ ap (λ (s : State). marched s refined.units) (refined_done ns tol slots limit [] cs ws u fits within newer b oldest e).none_waits
        ∙ whole_goes (march_step ns tol slots) (measure slots) (march_falls ns tol slots) full (refining (circles_in refined.state) []) refined.units (advancing (circles_in refined.state) 0) (unfold march_step in refl)

    -- or it ends as the refinement does
    pub refined_ends : (refined.ending ≡ ended finished → ⊥) → marched start u ≡ refined
    refined_ends n = march_sequel.as_it_is n (finishes (refine_step ns tol slots) (measure slots) (refine_falls ns tol slots) full start u)

    -- no fraction is due in it
    pub refined_due : due_in refined.state ≡ 0
    unfolding whole
    refined_due = go refined.state (run_holds (refine_step ns tol slots) full Refines (λ s t p h. refines_goes ns tol slots s t h p) (λ s t p h. refines_pays ns tol slots s t h p) fuel start u tt)
      where
        go : (s : State) → Refines s → due_in s ≡ 0
        go (refining ds vs) h = refl
        go (advancing ds k) h = absurd h
        go (stopped ds n) h = refl
