-- One refinement as a whole: what its list, count and units are, where it is finished, and its report over a store that holds the list already. Assumes nothing.
use mathlib.Core.Path.{◌≡◌, refl, ap}
use mathlib.Core.Bool.{Bool, true, false, cond}
use mathlib.Core.List.{List, [], ◌∷◌, ◌++◌}
use mathlib.Core.Logic.{◌⊎◌, inl, inr}
use Prim.Native.Nat.{ℕ, suc, ◌≤◌, ◌<◌}
use native.Mathlib.Omega.{arith}
use lib.Dec.{leb}
use lib.ListN.{length, length-append}
use lib.Ieee.{Float}
use Rattle.std.specs.Prelude.{Err}
use Rattle.runs.specs.Run.{Move, ends, goes, Ending, ended, Final, under_limit, whole}
use Rattle.runs.proofs.LimitLaws.{run_holds, ended_step, units_within, part_grows}
use Rattle.inscribed.specs.Store.{stored}
use Rattle.inscribed.specs.declared.Inscribed.{Inscribed}
use Rattle.inscribed.proofs.StoreLaws.{stored_longer}
use Rattle.refine.specs.Machine.{State, refining, advancing, stopped, circles_in, End, finished, refine_move, measure, refine_step, refine_run}
use Rattle.refine.specs.Report.{RunReport, reported}
use Rattle.refine.proofs.MachineLaws.{refine_grows, Part, Kept, refine_offered_goes, refine_offered_pays, refine-fits}
use Rattle.errors.specs.declared.Refusal.TheVariants.{StoreFull}

-- ---- one refinement

module _ (ns : List Float) (tol : Float) (slots limit : ℕ) (old : List Float) where
  abbrev full : ℕ → Bool
  full = under_limit limit

  abbrev report : Ending End → ℕ → ℕ → List Float → RunReport
  report e n u store = record { ending = e; count = n; units = u; store = store }

  module _ (cs ws : List Inscribed) (u : ℕ) (fits : length cs ≤ slots) (within : u ≤ limit) where
    abbrev start : State
    start = refining cs ws

    abbrev refined : Final State End
    refined = refine_run ns tol slots full cs ws u

    abbrev fuel : ℕ
    fuel = suc (measure slots start)

    pub refined_fits : length (circles_in refined.state) ≤ slots
    refined_fits = refine-fits ns tol slots full cs ws u fits

    pub refined_units : refined.units ≤ limit
    unfolding whole
    refined_units = units_within (refine_step ns tol slots) limit fuel start u within

    -- its list begins with the one before
    pub refined_part : Part start refined.state
    unfolding whole
    refined_part = part_grows (refine_step ns tol slots) Part (refine_grows ns tol slots) full fuel start u

    refined_step : refined.ending ≡ ended finished → refine_step ns tol slots refined.state ≡ ends finished
    unfolding whole
    refined_step e = ended_step (refine_step ns tol slots) full fuel start u finished e

    -- over a store that holds the list, its report is that over the old one
    pub refined_report : reported (stored cs old) refined ≡ reported old refined
    unfolding reported
    refined_report = let p = refined_part in rw p.1 (ap (λ (x : List Float). report refined.ending (length (cs ++ p.0)) refined.units x) (stored_longer (cs ++ p.0) cs old (omega (arith, length-append cs p.0))))

    -- ---- where one waits at least, the oldest of them b
    module _ (newer : List Inscribed) (b : Inscribed) (oldest : ws ≡ newer ++ (b ∷ [])) where
      refined_kept : Kept ns tol (length cs) slots b refined.state
      unfolding whole
      refined_kept = run_holds (refine_step ns tol slots) full (Kept ns tol (length cs) slots b) (refine_offered_goes ns tol (length cs) slots b) (refine_offered_pays ns tol (length cs) slots b) fuel start u (omega arith, inl (newer, oldest))

      -- where it is finished none waits, and the list has grown
      pub record Done (s : State) : Type 0 where
        pub none_waits : s ≡ refining (circles_in s) []
        pub grown : length cs < length (circles_in s)

      finished-done : (s : State) → Kept ns tol (length cs) slots b s → refine_step ns tol slots s ≡ ends finished → Done s
      unfolding refine_step refine_move
      finished-done (refining ds []) k e = go k.1
        where
          go : ((before : List Inscribed) × (◌≡◌ {A = List Inscribed} [] (before ++ (b ∷ [])))) ⊎ ((◌≡◌ {A = List Inscribed} [] []) × (before : List Inscribed) × (ds ≡ before ++ (b ∷ [])) × (length cs ≤ length before)) → Done (refining ds [])
          go (inl q) = absurd (omega (arith, ap length q.1, length-append q.0 (b ∷ [])))
          go (inr q) = record { none_waits = refl; grown = omega (arith, ap length q.2, length-append q.1 (b ∷ []), q.3) }
      finished-done (refining [] (w ∷ ws)) k e = go (leb slots 0) e
        where
          go : (x : Bool) → cond {A = Move State End} x (ends (Err StoreFull)) (goes (refining (w ∷ []) ws)) ≡ ends finished → Done (refining [] (w ∷ ws))
          go true q = let z : ◌≡◌ {A = ℕ} 0 1 = cc in absurd (omega arith)
          go false q = let z : ◌≡◌ {A = ℕ} 0 1 = cc in absurd (omega arith)
      finished-done (refining (d ∷ ds) (w ∷ ws)) k e = let z : ◌≡◌ {A = ℕ} 0 1 = cc in absurd (omega arith)
      finished-done (advancing ds j) k e = absurd k.1
      finished-done (stopped ds n) k e = let z : ◌≡◌ {A = ℕ} 0 1 = cc in absurd (omega arith)

      pub refined_done : refined.ending ≡ ended finished → Done refined.state
      refined_done e = finished-done refined.state refined_kept (refined_step e)
