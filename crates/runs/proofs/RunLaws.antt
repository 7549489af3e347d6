-- A run ends, whatever fuel it is given beyond its measure, and each state's move says what the rest of the run is. Assumes nothing.
use mathlib.Core.Path.{◌≡◌, refl, sym, ap, ◌∙◌}
use mathlib.Core.Bool.{Bool, true, false, cond}
use Prim.Native.Nat.{ℕ, zero, suc, ◌<◌}
use native.Mathlib.Omega.{arith}
use Rattle.runs.specs.Run.{Move, ends, goes, pays, ended, spent, unfinished, Final, final_of, next, run, whole}

-- each step from a state leads to one with a smaller measure
abbrev pub Falls : {S E : Type 0} → (S → Move S E) → (S → ℕ) → Type 0
Falls {S} step measure = (s t : S) → (step s ≡ goes t → measure t < measure s) × (step s ≡ pays t → measure t < measure s)

-- ---- one state of a run

pub run-zero : {S E : Type 0} (step : S → Move S E) (full : ℕ → Bool) (s : S) (u : ℕ) → run step full zero s u ≡ final_of unfinished s u
unfolding run
run-zero step full s u = refl

module _ {S E : Type 0} (step : S → Move S E) (full : ℕ → Bool) (f : ℕ) (s : S) (u : ℕ) where
  pub run_step : run step full (suc f) s u ≡ next full (run step full f) s u (step s)
  unfolding run
  run_step = refl

  pub run_ends : (e : E) → step s ≡ ends e → run step full (suc f) s u ≡ final_of (ended e) s u
  unfolding next
  run_ends e p = run_step ∙ rw p

  pub run-goes : (t : S) → step s ≡ goes t → run step full (suc f) s u ≡ run step full f t u
  unfolding next
  run-goes t p = run_step ∙ rw p

  pub run-pays : (t : S) → step s ≡ pays t → full u ≡ false → run step full (suc f) s u ≡ run step full f t (suc u)
  unfolding next
  run-pays t p q = run_step ∙ rw (p, q)

  pub run-spent : (t : S) → step s ≡ pays t → full u ≡ true → run step full (suc f) s u ≡ final_of spent s u
  unfolding next
  run-spent t p q = run_step ∙ rw (p, q)

-- ---- the whole of it

module _ {S E : Type 0} (step : S → Move S E) (measure : S → ℕ) (falls : Falls step measure) (full : ℕ → Bool) where
  -- any two lots of fuel beyond the measure give the same
  pub fuel_free : (f g : ℕ) (s : S) (u : ℕ) → measure s < f → measure s < g → run step full f s u ≡ run step full g s u
  unfolding next
  fuel_free zero g s u h k = absurd (omega arith)
  fuel_free (suc f) zero s u h k = absurd (omega arith)
  fuel_free (suc f) (suc g) s u h k = run_step step full f s u ∙ go (step s) refl (fuel_free f g) ∙ sym (run_step step full g s u)
    where
      go : (m : Move S E) → step s ≡ m → ((t : S) (v : ℕ) → measure t < f → measure t < g → run step full f t v ≡ run step full g t v)
          → next full (run step full f) s u m ≡ next full (run step full g) s u m
      go (ends e) p ih = refl
      go (goes t) p ih = ih t u (omega (arith, (falls s t).0 p)) (omega (arith, (falls s t).0 p))
      go (pays t) p ih = ap (λ (r : Final S E). cond (full u) (final_of spent s u) r) (ih t (suc u) (omega (arith, (falls s t).1 p)) (omega (arith, (falls s t).1 p)))

  module _ (s : S) (u : ℕ) where
    pub whole_ends : (e : E) → step s ≡ ends e → whole step measure full s u ≡ final_of (ended e) s u
    unfolding whole
    whole_ends e p = run_ends step full (measure s) s u e p

    pub whole_goes : (t : S) → step s ≡ goes t → whole step measure full s u ≡ whole step measure full t u
    unfolding whole
    whole_goes t p = run-goes step full (measure s) s u t p ∙ fuel_free (measure s) (suc (measure t)) t u ((falls s t).0 p) (omega arith)

    pub whole_pays : (t : S) → step s ≡ pays t → full u ≡ false → whole step measure full s u ≡ whole step measure full t (suc u)
    unfolding whole
    whole_pays t p q = run-pays step full (measure s) s u t p q ∙ fuel_free (measure s) (suc (measure t)) t (suc u) ((falls s t).1 p) (omega arith)

    pub whole_spent : (t : S) → step s ≡ pays t → full u ≡ true → whole step measure full s u ≡ final_of spent s u
    unfolding whole
    whole_spent t p q = run-spent step full (measure s) s u t p q
