-- A run that a limit cut short goes on from the state that it had: stopping at a unit and going on is the run itself. Assumes nothing.
use mathlib.Core.Path.{◌≡◌, refl, sym, ap, ◌∙◌}
use mathlib.Core.Bool.{Bool, true, false, cond}
use Prim.Native.Nat.{ℕ, zero, suc, ◌+◌, ◌<◌}
use native.Mathlib.Omega.{arith}
use borrow.Author.Tests.{leb-true, leb-false, le-leb, lt-leb}
use lib.Dec.{leb}
use Rattle.runs.specs.Run.{Move, ends, goes, pays, spent, Final, final_of, under_limit, next, run, whole}
use Rattle.runs.proofs.RunLaws.{Falls, run-zero, run_step, fuel_free, whole_spent}
use Rattle.runs.proofs.LimitLaws.{spent-units}

-- the same run, with a units taken before it
abbrev pub after_units : {S E : Type 0} → ℕ → Final S E → Final S E
after_units a o = final_of o.ending o.state (a + o.units)

module _ {S E : Type 0} (step : S → Move S E) where
  -- a spent run stands where a unit was wanted
  pub spent_pays : (full : ℕ → Bool) (f : ℕ) (s : S) (u : ℕ) → (run step full f s u).ending ≡ spent → (t : S) × (step (run step full f s u).state ≡ pays t)
  unfolding next
  spent_pays full zero s u e = let p = (rw (run-zero step full s u) at e) in let z : ◌≡◌ {A = ℕ} 0 1 = cc in absurd (omega arith)
  spent_pays full (suc f) s u e = rw (run_step step full f s u) (go (step s) refl (spent_pays full f) (rw (run_step step full f s u) at e))
    where
      go : (m : Move S E) → step s ≡ m → ((t : S) (v : ℕ) → (run step full f t v).ending ≡ spent → (w : S) × (step (run step full f t v).state ≡ pays w))
          → (next full (run step full f) s u m).ending ≡ spent → (w : S) × (step (next full (run step full f) s u m).state ≡ pays w)
      go (ends x) q ih p = let z : ◌≡◌ {A = ℕ} 0 1 = cc in absurd (omega arith)
      go (goes t) q ih p = ih t u p
      go (pays t) q ih p = pick (full u) (ih t (suc u)) p
        where
          pick : (b : Bool) → ((run step full f t (suc u)).ending ≡ spent → (w : S) × (step (run step full f t (suc u)).state ≡ pays w))
              → (cond b (final_of spent s u) (run step full f t (suc u))).ending ≡ spent → (w : S) × (step (cond b (final_of spent s u) (run step full f t (suc u))).state ≡ pays w)
          pick true k r = (t, q)
          pick false k r = k r

  -- units taken before, and a limit larger by as many, change nothing but the units told
  shifted : (a limit : ℕ) (u : ℕ) → leb (a + limit) (a + u) ≡ leb limit u
  shifted a limit u = go (leb limit u) refl
    where
      go : (b : Bool) → leb limit u ≡ b → leb (a + limit) (a + u) ≡ b
      go true e = le-leb (a + limit) (a + u) (omega (arith, leb-true limit u e))
      go false e = lt-leb (a + limit) (a + u) (omega (arith, leb-false limit u e))

  pub run_after : (a limit f : ℕ) (s : S) (u : ℕ) → run step (under_limit (a + limit)) f s (a + u) ≡ after_units a (run step (under_limit limit) f s u)
  unfolding next
  run_after a limit zero s u = run-zero step (under_limit (a + limit)) s (a + u) ∙ ap (after_units a) (sym (run-zero step (under_limit limit) s u))
  run_after a limit (suc f) s u =
      run_step step (under_limit (a + limit)) f s (a + u) ∙ go (step s) (run_after a limit f) ∙ ap (after_units a) (sym (run_step step (under_limit limit) f s u))
    where
      go : (m : Move S E) → ((t : S) (v : ℕ) → run step (under_limit (a + limit)) f t (a + v) ≡ after_units a (run step (under_limit limit) f t v))
          → next (under_limit (a + limit)) (run step (under_limit (a + limit)) f) s (a + u) m ≡ after_units a (next (under_limit limit) (run step (under_limit limit) f) s u m)
      go (ends e) ih = refl
      go (goes t) ih = ih t u
      go (pays t) ih = rw (shifted a limit u) (pick (leb limit u) (let z : suc (a + u) ≡ a + suc u = omega arith in rw z (ih t (suc u))))
        where
          pick : (b : Bool) → run step (under_limit (a + limit)) f t (suc (a + u)) ≡ after_units a (run step (under_limit limit) f t (suc u))
              → cond b (final_of spent s (a + u)) (run step (under_limit (a + limit)) f t (suc (a + u))) ≡ after_units a (cond b (final_of spent s u) (run step (under_limit limit) f t (suc u)))
          pick true k = refl
          pick false k = k

module _ {S E : Type 0} (step : S → Move S E) (measure : S → ℕ) (falls : Falls step measure) where
  -- what a run that may take more units is, given that the other was spent
  pub run_resumed : (small large : ℕ → Bool) → ((u : ℕ) → large u ≡ true → small u ≡ true) → (f : ℕ) (s : S) (u : ℕ) → measure s < f → (run step small f s u).ending ≡ spent
      → run step large f s u ≡ whole step measure large (run step small f s u).state (run step small f s u).units
  unfolding next whole
  run_resumed small large sooner zero s u h e = absurd (omega arith)
  run_resumed small large sooner (suc f) s u h e =
      rw (run_step step small f s u) (go (step s) refl (run_resumed small large sooner f) (rw (run_step step small f s u) at e))
    where
      go : (m : Move S E) → step s ≡ m
          → ((t : S) (v : ℕ) → measure t < f → (run step small f t v).ending ≡ spent → run step large f t v ≡ whole step measure large (run step small f t v).state (run step small f t v).units)
          → (next small (run step small f) s u m).ending ≡ spent
          → run step large (suc f) s u ≡ whole step measure large (next small (run step small f) s u m).state (next small (run step small f) s u m).units
      go (ends x) p ih q = let z : ◌≡◌ {A = ℕ} 0 1 = cc in absurd (omega arith)
      go (goes t) p ih q = run_step step large f s u ∙ rw p (ih t u (omega (arith, (falls s t).0 p)) q)
      go (pays t) p ih q = pick (small u) (large u) refl (sooner u) (ih t (suc u) (omega (arith, (falls s t).1 p))) q
        where
          pick : (a b : Bool) → large u ≡ b → (b ≡ true → a ≡ true)
              → ((run step small f t (suc u)).ending ≡ spent → run step large f t (suc u) ≡ whole step measure large (run step small f t (suc u)).state (run step small f t (suc u)).units)
              → (cond a (final_of spent s u) (run step small f t (suc u))).ending ≡ spent
              → run step large (suc f) s u ≡ whole step measure large (cond a (final_of spent s u) (run step small f t (suc u))).state (cond a (final_of spent s u) (run step small f t (suc u))).units
          pick true b w k ih r = fuel_free step measure falls large (suc f) (suc (measure s)) s u h (omega arith)
          pick false true w k ih r = let y : false ≡ true = k refl in let z : ◌≡◌ {A = ℕ} 0 1 = cc in absurd (omega arith)
          pick false false w k ih r = run_step step large f s u ∙ rw (p, w) (ih r)

  abbrev pub limited : ℕ → S → Final S E
  limited limit s = whole step measure (under_limit limit) s 0

  -- "Going on with a second limit .. leaves the store and ending of a single march whose limit is the sum; units add up": the run from s that a first limit cut short, and gone on with a second
  pub paused : (first second : ℕ) (s : S) → (limited first s).ending ≡ spent → limited (first + second) s ≡ after_units first (limited second (limited first s).state)
  unfolding whole
  paused first second s e =
      let o = limited first s in
      let units : o.units ≡ first + 0 = spent-units step first (suc (measure s)) s 0 (omega arith) e ∙ omega arith in
      run_resumed (under_limit first) (under_limit (first + second)) (λ u p. le-leb first u (omega (arith, leb-true (first + second) u p))) (suc (measure s)) s 0 (omega arith) e
      ∙ ap (λ (u : ℕ). whole step measure (under_limit (first + second)) o.state u) units
      ∙ run_after step first second (suc (measure o.state)) o.state 0

  -- "Limit 0, on a state that a spent march gave .., returns an equal state", and takes no unit
  pub paused_at_once : (first : ℕ) (s : S) → (limited first s).ending ≡ spent → limited 0 (limited first s).state ≡ final_of spent (limited first s).state 0
  unfolding whole
  paused_at_once first s e =
      let t = spent_pays step (under_limit first) (suc (measure s)) s 0 e in
      whole_spent step measure falls (under_limit 0) (limited first s).state 0 t.0 t.1 (le-leb 0 0 (omega arith))
