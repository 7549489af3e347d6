-- What a limit does to a run: it may cut it short and never alters it. For any machine whose states only grow. Assumes nothing.
use mathlib.Core.Path.{◌≡◌, refl, sym, ap, ◌∙◌}
use mathlib.Core.Bool.{Bool, true, false, cond}
use mathlib.Core.Logic.{◌⊎◌, inl, inr, ⊎_elim}
use Prim.Native.Nat.{ℕ, zero, suc, ◌≤◌, ◌<◌, min}
use native.Mathlib.Omega.{arith}
use borrow.Author.Tests.{leb-true, leb-false, le-leb}
use Rattle.runs.specs.Run.{Move, ends, goes, pays, ended, spent, unfinished, Final, final_of, under_limit, never, next, run, whole}
use Rattle.runs.proofs.RunLaws.{Falls, run-zero, run_step}

-- a relation of states that each step keeps: `Part s t` says that s is a first part of t
pub record Grows {S E : Type 0} (step : S → Move S E) (Part : S → S → Type 0) : Type 0 where
  pub same : (s : S) → Part s s
  pub chain : (s t v : S) → Part s t → Part t v → Part s v
  pub goes_on : (s t : S) → step s ≡ goes t → Part s t
  pub pays_on : (s t : S) → step s ≡ pays t → Part s t

-- what every step keeps holds at the end
module _ {S E : Type 0} (step : S → Move S E) (full : ℕ → Bool) (Holds : S → Type 0)
    (by-goes : (s t : S) → step s ≡ goes t → Holds s → Holds t) (by-pays : (s t : S) → step s ≡ pays t → Holds s → Holds t) where
  pub run_holds : (f : ℕ) (s : S) (u : ℕ) → Holds s → Holds (run step full f s u).state
  unfolding next
  run_holds zero s u h = rw (run-zero step full s u) h
  run_holds (suc f) s u h = rw (run_step step full f s u) (go (step s) refl (run_holds f))
    where
      go : (m : Move S E) → step s ≡ m → ((t : S) (v : ℕ) → Holds t → Holds (run step full f t v).state) → Holds (next full (run step full f) s u m).state
      go (ends e) p ih = h
      go (goes t) p ih = ih t u (by-goes s t p h)
      go (pays t) p ih = pick (full u) (ih t (suc u) (by-pays s t p h))
        where
          pick : (b : Bool) → Holds (run step full f t (suc u)).state → Holds (cond b (final_of spent s u) (run step full f t (suc u))).state
          pick true k = h
          pick false k = k

module _ {S E : Type 0} (step : S → Move S E) where
  -- ---- units only grow

  pub units_grow : (full : ℕ → Bool) (f : ℕ) (s : S) (u : ℕ) → u ≤ (run step full f s u).units
  unfolding next
  units_grow full zero s u = rw (run-zero step full s u) (omega arith)
  units_grow full (suc f) s u = rw (run_step step full f s u) (go (step s) (units_grow full f))
    where
      go : (m : Move S E) → ((t : S) (v : ℕ) → v ≤ (run step full f t v).units) → u ≤ (next full (run step full f) s u m).units
      go (ends e) ih = omega arith
      go (goes t) ih = ih t u
      go (pays t) ih = pick (full u) (ih t (suc u))
        where
          pick : (b : Bool) → suc u ≤ (run step full f t (suc u)).units → u ≤ (cond b (final_of spent s u) (run step full f t (suc u))).units
          pick true k = omega arith
          pick false k = omega arith

  -- a limit is kept
  pub units_within : (limit f : ℕ) (s : S) (u : ℕ) → u ≤ limit → (run step (under_limit limit) f s u).units ≤ limit
  unfolding next
  units_within limit zero s u h = rw (run-zero step (under_limit limit) s u) h
  units_within limit (suc f) s u h = rw (run_step step (under_limit limit) f s u) (go (step s) (units_within limit f))
    where
      go : (m : Move S E) → ((t : S) (v : ℕ) → v ≤ limit → (run step (under_limit limit) f t v).units ≤ limit) → (next (under_limit limit) (run step (under_limit limit) f) s u m).units ≤ limit
      go (ends e) ih = h
      go (goes t) ih = ih t u h
      go (pays t) ih = pick (under_limit limit u) (leb-false limit u) (ih t (suc u))
        where
          pick : (b : Bool) → (b ≡ false → u < limit) → (suc u ≤ limit → (run step (under_limit limit) f t (suc u)).units ≤ limit) → (cond b (final_of spent s u) (run step (under_limit limit) f t (suc u))).units ≤ limit
          pick true w k = h
          pick false w k = k (w refl)

  -- without a limit none is spent
  pub never-spent : (f : ℕ) (s : S) (u : ℕ) → (run step never f s u).ending ≡ spent → ⊥
  unfolding next
  never-spent zero s u e = let p = (rw (run-zero step never s u) at e) in let z : ◌≡◌ {A = ℕ} 0 1 = cc in omega arith
  never-spent (suc f) s u e = go (step s) (never-spent f) (rw (run_step step never f s u) at e)
    where
      go : (m : Move S E) → ((t : S) (v : ℕ) → (run step never f t v).ending ≡ spent → ⊥) → (next never (run step never f) s u m).ending ≡ spent → ⊥
      go (ends x) ih p = let z : ◌≡◌ {A = ℕ} 0 1 = cc in omega arith
      go (goes t) ih p = ih t u p
      go (pays t) ih p = ih t (suc u) p

  -- a spent run has had all its units
  pub spent-units : (limit f : ℕ) (s : S) (u : ℕ) → u ≤ limit → (run step (under_limit limit) f s u).ending ≡ spent → (run step (under_limit limit) f s u).units ≡ limit
  unfolding next
  spent-units limit zero s u h e = let p = (rw (run-zero step (under_limit limit) s u) at e) in let z : ◌≡◌ {A = ℕ} 0 1 = cc in absurd (omega arith)
  spent-units limit (suc f) s u h e = rw (run_step step (under_limit limit) f s u) (go (step s) (spent-units limit f) (rw (run_step step (under_limit limit) f s u) at e))
    where
      go : (m : Move S E) → ((t : S) (v : ℕ) → v ≤ limit → (run step (under_limit limit) f t v).ending ≡ spent → (run step (under_limit limit) f t v).units ≡ limit)
          → (next (under_limit limit) (run step (under_limit limit) f) s u m).ending ≡ spent → (next (under_limit limit) (run step (under_limit limit) f) s u m).units ≡ limit
      go (ends x) ih p = let z : ◌≡◌ {A = ℕ} 0 1 = cc in absurd (omega arith)
      go (goes t) ih p = ih t u h p
      go (pays t) ih p = pick (under_limit limit u) (leb-true limit u) (leb-false limit u) p
        where
          pick : (b : Bool) → (b ≡ true → limit ≤ u) → (b ≡ false → u < limit) → (cond b (final_of spent s u) (run step (under_limit limit) f t (suc u))).ending ≡ spent
              → (cond b (final_of spent s u) (run step (under_limit limit) f t (suc u))).units ≡ limit
          pick true w v q = omega (arith, w refl)
          pick false w v q = ih t (suc u) (v refl) q

  -- ---- two limits

  module _ (Part : S → S → Type 0) (grows : Grows step Part) where
    pub part_grows : (full : ℕ → Bool) (f : ℕ) (s : S) (u : ℕ) → Part s (run step full f s u).state
    part_grows full f s u =
        run_holds step full (λ (t : S). Part s t) (λ t v p h. grows.chain s t v h (grows.goes_on t v p)) (λ t v p h. grows.chain s t v h (grows.pays_on t v p)) f s u (grows.same s)

    -- The run under the smaller limit is the other one, or it is spent, with fewer units, in a state that is a first part of the other's.
    pub compared : (small large : ℕ → Bool) → ((u : ℕ) → large u ≡ true → small u ≡ true) → (f : ℕ) (s : S) (u : ℕ)
        → (run step small f s u ≡ run step large f s u)
        ⊎ (((run step small f s u).ending ≡ spent) × ((run step small f s u).units < (run step large f s u).units) × Part (run step small f s u).state (run step large f s u).state)
    unfolding next
    compared small large sooner zero s u = inl (run-zero step small s u ∙ sym (run-zero step large s u))
    compared small large sooner (suc f) s u =
        rw (run_step step small f s u, run_step step large f s u) (go (step s) refl (compared small large sooner f))
      where
        go : (m : Move S E) → step s ≡ m
            → ((t : S) (v : ℕ) → (run step small f t v ≡ run step large f t v) ⊎ (((run step small f t v).ending ≡ spent) × ((run step small f t v).units < (run step large f t v).units) × Part (run step small f t v).state (run step large f t v).state))
            → (next small (run step small f) s u m ≡ next large (run step large f) s u m)
            ⊎ (((next small (run step small f) s u m).ending ≡ spent) × ((next small (run step small f) s u m).units < (next large (run step large f) s u m).units) × Part (next small (run step small f) s u m).state (next large (run step large f) s u m).state)
        go (ends e) p ih = inl refl
        go (goes t) p ih = ih t u
        go (pays t) p ih = pick (small u) (large u) (sooner u) (ih t (suc u))
          where
            pick : (a b : Bool) → (b ≡ true → a ≡ true)
                → (run step small f t (suc u) ≡ run step large f t (suc u)) ⊎ (((run step small f t (suc u)).ending ≡ spent) × ((run step small f t (suc u)).units < (run step large f t (suc u)).units) × Part (run step small f t (suc u)).state (run step large f t (suc u)).state)
                → (cond a (final_of spent s u) (run step small f t (suc u)) ≡ cond b (final_of spent s u) (run step large f t (suc u)))
                ⊎ (((cond a (final_of spent s u) (run step small f t (suc u))).ending ≡ spent) × ((cond a (final_of spent s u) (run step small f t (suc u))).units < (cond b (final_of spent s u) (run step large f t (suc u))).units) × Part (cond a (final_of spent s u) (run step small f t (suc u))).state (cond b (final_of spent s u) (run step large f t (suc u))).state)
            pick true true w k = inl refl
            pick true false w k = inr (refl, units_grow large f t (suc u), grows.chain s t _ (grows.pays_on s t p) (part_grows large f t (suc u)))
            pick false false w k = k
            pick false true w k = let z : false ≡ true = w refl in let y : ◌≡◌ {A = ℕ} 0 1 = cc in absurd (omega arith)

-- ---- the laws of limits, of any family of runs: one for each test of where no further unit may be taken

-- of two of them, the one that is cut short sooner is the other one, or it is spent, with fewer units, in a state that is a first part of the other's
pub record Limited {S E : Type 0} (o : (ℕ → Bool) → Final S E) (Part : S → S → Type 0) : Type 0 where
  pub same : (s : S) → Part s s
  pub compared_runs : (small large : ℕ → Bool) → ((u : ℕ) → large u ≡ true → small u ≡ true)
      → (o small ≡ o large) ⊎ (((o small).ending ≡ spent) × ((o small).units < (o large).units) × Part (o small).state (o large).state)
  pub within : (limit : ℕ) → (o (under_limit limit)).units ≤ limit
  pub all_units : (limit : ℕ) → (o (under_limit limit)).ending ≡ spent → (o (under_limit limit)).units ≡ limit
  pub unlimited : (o never).ending ≡ spent → ⊥

module _ {S E : Type 0} (o : (ℕ → Bool) → Final S E) (Part : S → S → Type 0) (l : Limited o Part) where
  with_plain : (limit : ℕ) → (o (under_limit limit) ≡ o never) ⊎ (((o (under_limit limit)).ending ≡ spent) × ((o (under_limit limit)).units < (o never).units) × Part (o (under_limit limit)).state (o never).state)
  with_plain limit = l.compared_runs (under_limit limit) never (λ u e. let z : ◌≡◌ {A = ℕ} 0 1 = cc in absurd (omega arith))

  with_larger : (limit more : ℕ) → limit ≤ more
      → (o (under_limit limit) ≡ o (under_limit more)) ⊎ (((o (under_limit limit)).ending ≡ spent) × ((o (under_limit limit)).units < (o (under_limit more)).units) × Part (o (under_limit limit)).state (o (under_limit more)).state)
  with_larger limit more h = l.compared_runs (under_limit limit) (under_limit more) (λ u e. le-leb limit u (omega (arith, leb-true more u e)))

  -- spent exactly where the run without a limit takes more units than the limit
  pub spent_if : (limit : ℕ) → limit < (o never).units → (o (under_limit limit)).ending ≡ spent
  spent_if limit h = ⊎_elim (λ e. absurd (omega (arith, l.within limit, h, ap (λ (p : Final S E). p.units) e))) (λ k. k.0) (with_plain limit)

  pub if_spent : (limit : ℕ) → (o (under_limit limit)).ending ≡ spent → limit < (o never).units
  if_spent limit p = ⊎_elim (λ e. absurd (l.unlimited (sym (ap (λ (p : Final S E). p.ending) e) ∙ p))) (λ k. omega (arith, k.1, l.all_units limit p)) (with_plain limit)

  -- any other ending is that of the run without a limit, with all else
  pub not-spent : (limit : ℕ) → ((o (under_limit limit)).ending ≡ spent → ⊥) → o (under_limit limit) ≡ o never
  not-spent limit n = ⊎_elim (λ e. e) (λ k. absurd (n k.0)) (with_plain limit)

  -- the units are the smaller of the two
  pub units-min : (limit : ℕ) → (o (under_limit limit)).units ≡ min limit (o never).units
  units-min limit =
      ⊎_elim
      (λ e. let q = ap (λ (p : Final S E). p.units) e in omega (arith, l.within limit, q))
      (λ k. omega (arith, k.1, l.all_units limit k.0))
      (with_plain limit)

  -- and every larger limit gives the same
  pub not-spent_later : (limit more : ℕ) → limit ≤ more → ((o (under_limit limit)).ending ≡ spent → ⊥) → o (under_limit more) ≡ o (under_limit limit)
  not-spent_later limit more h n = ⊎_elim (λ e. sym e) (λ k. absurd (n k.0)) (with_larger limit more h)

  -- the state under a limit is a first part of that under any larger one
  pub part_later : (limit more : ℕ) → limit ≤ more → Part (o (under_limit limit)).state (o (under_limit more)).state
  part_later limit more h = ⊎_elim (λ e. rw e (l.same _)) (λ k. k.2) (with_larger limit more h)

-- the whole run of a machine from a state on is such a family
module _ {S E : Type 0} (step : S → Move S E) (measure : S → ℕ) (s : S) (Part : S → S → Type 0) (grows : Grows step Part) where
  pub limited_runs : Limited (λ full. whole step measure full s 0) Part
  unfolding whole
  limited_runs = record {
    same = grows.same;
    compared_runs = λ small large sooner. compared step Part grows small large sooner (suc (measure s)) s 0;
    within = λ limit. units_within step limit (suc (measure s)) s 0 (omega arith);
    all_units = λ limit e. spent-units step limit (suc (measure s)) s 0 (omega arith) e;
    unlimited = λ e. never-spent step (suc (measure s)) s 0 e;
  }

-- A run whose measure falls is never unfinished.
module _ {S E : Type 0} (step : S → Move S E) (measure : S → ℕ) (falls : Falls step measure) (full : ℕ → Bool) where
  pub run_finishes : (f : ℕ) (s : S) (u : ℕ) → measure s < f → (run step full f s u).ending ≡ unfinished → ⊥
  unfolding next
  run_finishes zero s u h e = omega arith
  run_finishes (suc f) s u h e = go (step s) refl (run_finishes f) (rw (run_step step full f s u) at e)
    where
      go : (m : Move S E) → step s ≡ m → ((t : S) (v : ℕ) → measure t < f → (run step full f t v).ending ≡ unfinished → ⊥) → (next full (run step full f) s u m).ending ≡ unfinished → ⊥
      go (ends x) p ih q = let z : ◌≡◌ {A = ℕ} 0 1 = cc in omega arith
      go (goes t) p ih q = ih t u (omega (arith, (falls s t).0 p)) q
      go (pays t) p ih q = pick (full u) (ih t (suc u) (omega (arith, (falls s t).1 p))) q
        where
          pick : (b : Bool) → ((run step full f t (suc u)).ending ≡ unfinished → ⊥) → (cond b (final_of spent s u) (run step full f t (suc u))).ending ≡ unfinished → ⊥
          pick true k r = let z : ◌≡◌ {A = ℕ} 0 1 = cc in omega arith
          pick false k r = k r

  pub finishes : (s : S) (u : ℕ) → (whole step measure full s u).ending ≡ unfinished → ⊥
  unfolding whole
  finishes s u e = run_finishes (suc (measure s)) s u (omega arith) e

-- Where a run ends by itself, its last state's move says so.
module _ {S E : Type 0} (step : S → Move S E) (full : ℕ → Bool) where
  pub ended_step : (f : ℕ) (s : S) (u : ℕ) (e : E) → (run step full f s u).ending ≡ ended e → step (run step full f s u).state ≡ ends e
  unfolding next
  ended_step zero s u e p = let q = (rw (run-zero step full s u) at p) in let z : ◌≡◌ {A = ℕ} 0 1 = cc in absurd (omega arith)
  ended_step (suc f) s u e p = rw (run_step step full f s u) (go (step s) refl (ended_step f) (rw (run_step step full f s u) at p))
    where
      go : (m : Move S E) → step s ≡ m → ((t : S) (v : ℕ) (x : E) → (run step full f t v).ending ≡ ended x → step (run step full f t v).state ≡ ends x)
          → (next full (run step full f) s u m).ending ≡ ended e → step (next full (run step full f) s u m).state ≡ ends e
      go (ends x) q ih r = q ∙ (let y : x ≡ e = cc in ap ends y)
      go (goes t) q ih r = ih t u e r
      go (pays t) q ih r = pick (full u) (ih t (suc u) e) r
        where
          pick : (b : Bool) → ((run step full f t (suc u)).ending ≡ ended e → step (run step full f t (suc u)).state ≡ ends e)
              → (cond b (final_of spent s u) (run step full f t (suc u))).ending ≡ ended e → step (cond b (final_of spent s u) (run step full f t (suc u))).state ≡ ends e
          pick true k w = let z : ◌≡◌ {A = ℕ} 0 1 = cc in absurd (omega arith)
          pick false k w = k w
