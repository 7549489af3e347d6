-- Two machines of which one has less room: their runs are one until the larger takes what the smaller has no room for. Assumes nothing.
use mathlib.Core.Path.{◌≡◌, refl}
use mathlib.Core.Bool.{Bool, true, false}
use mathlib.Core.Logic.{◌⊎◌, inl, inr}
use Prim.Native.Nat.{ℕ, zero, suc, ◌≤◌, ◌<◌}
use native.Mathlib.Omega.{arith}
use Rattle.runs.specs.Run.{Move, ends, goes, pays, ended, Final, final_of, next, run, whole}
use Rattle.runs.proofs.RunLaws.{Falls, run_ends, run-goes, run-pays, run-spent, fuel_free}
use Rattle.runs.proofs.LimitLaws.{run_holds, units_grow}

-- `HasRoom s`: the smaller machine has room for what s holds; `HasMore t`: t holds more. `First v t`: all that v holds is the first part of what t holds, and it is as much as there is room for.
-- `e` is how the smaller machine ends where it has no room.
module _ {S E : Type 0} (small large : S → Move S E) (e : E) (HasRoom HasMore : S → Type 0) (First : S → S → Type 0) where
  -- what follows a state that is within the room of both: the same, or the larger machine takes what the smaller has no room for, without a unit or with one
  pub data Parts (s : S) : Type 0 where
    alike : small s ≡ large s → ((t : S) → large s ≡ goes t → HasRoom t) → ((t : S) → large s ≡ pays t → HasRoom t) → Parts s
    parts_free : (t : S) → large s ≡ goes t → small s ≡ ends e → HasMore t → First s t → Parts s
    parts_paid : (t v : S) → large s ≡ pays t → small s ≡ pays v → small v ≡ ends e → HasMore t → First v t → Parts s

  -- of both runs' ends, the smaller's and the larger's: they parted
  pub record Parted (o p : Final S E) : Type 0 where
    pub full : o.ending ≡ ended e
    pub has_more : HasMore p.state
    pub first : First o.state p.state
    pub sooner : o.units ≤ p.units

  abbrev pub Compared : Final S E → Final S E → Type 0
  Compared o p = ((o ≡ p) × HasRoom p.state) ⊎ Parted o p

  module _ (measure : S → ℕ) (falls : Falls large measure) (full : ℕ → Bool)
      (parts : (s : S) → HasRoom s → Parts s)
      (more-goes : (s t : S) → large s ≡ goes t → HasMore s → HasMore t) (more-pays : (s t : S) → large s ≡ pays t → HasMore s → HasMore t)
      (first-goes : (v s t : S) → large s ≡ goes t → First v s → First v t) (first-pays : (v s t : S) → large s ≡ pays t → First v s → First v t) where
    -- the larger machine goes on from t, where it holds more, with w units, while the smaller has ended at v with u
    rest : (f : ℕ) (v t : S) (u w : ℕ) → u ≤ w → HasMore t → First v t → Parted (final_of (ended e) v u) (run large full f t w)
    rest f v t u w h b k = record {
      full = refl;
      has_more = run_holds large full HasMore more-goes more-pays f t w b;
      first = run_holds large full (First v) (first-goes v) (first-pays v) f t w k;
      sooner = let g = units_grow large full f t w in omega (arith, g);
    }

    pub run_compared : (f : ℕ) (s : S) (u : ℕ) → measure s < f → HasRoom s → Compared (run small full f s u) (run large full f s u)
    unfolding next
    run_compared zero s u h w = absurd (omega arith)
    run_compared (suc f) s u h w = go (parts s w) (run_compared f)
      where
        same : (m : Move S E) → small s ≡ m → large s ≡ m → ((t : S) → m ≡ goes t → HasRoom t) → ((t : S) → m ≡ pays t → HasRoom t)
            → ((t : S) (v : ℕ) → measure t < f → HasRoom t → Compared (run small full f t v) (run large full f t v))
            → Compared (run small full (suc f) s u) (run large full (suc f) s u)
        same (ends x) p q wg wp ih = rw (run_ends small full f s u x p, run_ends large full f s u x q) (inl (refl, w))
        same (goes t) p q wg wp ih = rw (run-goes small full f s u t p, run-goes large full f s u t q) (ih t u (omega (arith, (falls s t).0 q)) (wg t refl))
        same (pays t) p q wg wp ih = pick (full u) refl
          where
            pick : (b : Bool) → full u ≡ b → Compared (run small full (suc f) s u) (run large full (suc f) s u)
            pick true k = rw (run-spent small full f s u t p k, run-spent large full f s u t q k) (inl (refl, w))
            pick false k = rw (run-pays small full f s u t p k, run-pays large full f s u t q k) (ih t (suc u) (omega (arith, (falls s t).1 q)) (wp t refl))

        more : (g : ℕ) (t v : S) → measure t < g → small v ≡ ends e → run small full g v (suc u) ≡ final_of (ended e) v (suc u)
        more zero t v k p = absurd (omega arith)
        more (suc g) t v k p = run_ends small full g v (suc u) e p

        go : Parts s → ((t : S) (v : ℕ) → measure t < f → HasRoom t → Compared (run small full f t v) (run large full f t v)) → Compared (run small full (suc f) s u) (run large full (suc f) s u)
        go (alike p wg wp) ih = same (large s) p refl wg wp ih
        go (parts_free t q p b k) ih = rw (run_ends small full f s u e p, run-goes large full f s u t q) (inr (rest f s t u u (omega arith) b k))
        go (parts_paid t v q p p₂ b k) ih = pick (full u) refl
          where
            pick : (c : Bool) → full u ≡ c → Compared (run small full (suc f) s u) (run large full (suc f) s u)
            pick true c = rw (run-spent small full f s u v p c, run-spent large full f s u t q c) (inl (refl, w))
            pick false c =
                rw (run-pays small full f s u v p c, run-pays large full f s u t q c, more f t v (omega (arith, (falls s t).1 q)) p₂)
                (inr (rest f v t (suc u) (suc u) (omega arith) b k))

    -- ---- the whole runs, each with the fuel of its own measure
    module _ (less : S → ℕ) (small-falls : Falls small less) where
      pub whole_compared : (s : S) (u : ℕ) → less s ≤ measure s → HasRoom s → Compared (whole small less full s u) (whole large measure full s u)
      unfolding whole
      whole_compared s u h w =
          rw (fuel_free small less small-falls full (suc (less s)) (suc (measure s)) s u (omega arith) (omega arith))
          (run_compared (suc (measure s)) s u (omega arith) w)
