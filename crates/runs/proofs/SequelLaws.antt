-- A machine that goes on where another ends: as long as both make the same moves, the run of the one is that of the other, and then goes on. Assumes nothing.
use mathlib.Core.Path.{◌≡◌, refl, ap, ◌∙◌}
use mathlib.Core.Bool.{Bool, true, false, cond}
use Prim.Native.Nat.{ℕ, zero, suc}
use native.Mathlib.Omega.{arith}
use Rattle.runs.specs.Run.{Move, ends, goes, pays, ended, spent, unfinished, Final, final_of, next, run, whole}
use Rattle.runs.proofs.RunLaws.{Falls, run-zero, run_step, whole_ends, whole_goes, whole_pays, whole_spent}

-- `Same s`: from s on the first machine stays among such states, and at each of them the second makes the same move, unless the first ends with `e`
module _ {S E : Type 0} (first second : S → Move S E) (measure : S → ℕ) (falls : Falls second measure) (full : ℕ → Bool) (e : E) (Same : S → Type 0)
    (alike : (s : S) → Same s → (first s ≡ ends e → ⊥) → second s ≡ first s)
    (Goes-same : (s t : S) → Same s → first s ≡ goes t → Same t) (pays-same : (s t : S) → Same s → first s ≡ pays t → Same t) where
  -- what the second run is, given the first's
  pub record Sequel (s : S) (u : ℕ) (o : Final S E) : Type 0 where
    pub goes_on : o.ending ≡ ended e → whole second measure full s u ≡ whole second measure full o.state o.units
    pub as_it_is : (o.ending ≡ ended e → ⊥) → (o.ending ≡ unfinished → ⊥) → whole second measure full s u ≡ o

  moved : (s t : S) (u v : ℕ) (o : Final S E) → whole second measure full s u ≡ whole second measure full t v → Sequel t v o → Sequel s u o
  moved s t u v o p q = record { goes_on = λ k. p ∙ q.goes_on k; as_it_is = λ k m. p ∙ q.as_it_is k m }

  pub sequel : (f : ℕ) (s : S) (u : ℕ) → Same s → Sequel s u (run first full f s u)
  unfolding next
  sequel zero s u h = rw (run-zero first full s u) (record { goes_on = λ k. let z : ◌≡◌ {A = ℕ} 0 1 = cc in absurd (omega arith); as_it_is = λ k m. absurd (m refl) })
  sequel (suc f) s u h = rw (run_step first full f s u) (go (first s) refl (sequel f))
    where
      go : (m : Move S E) → first s ≡ m → ((t : S) (v : ℕ) → Same t → Sequel t v (run first full f t v)) → Sequel s u (next full (run first full f) s u m)
      go (ends x) p ih = record {
        goes_on = λ k. refl;
        as_it_is = λ k m. whole_ends second measure falls full s u x (alike s h (λ q. k (let y : x ≡ e = cc in ap ended y)) ∙ p);
      }
      go (goes t) p ih = moved s t u u (run first full f t u) (whole_goes second measure falls full s u t (alike s h (λ q. let z : ◌≡◌ {A = ℕ} 0 1 = cc in absurd (omega arith)) ∙ p)) (ih t u (Goes-same s t h p))
      go (pays t) p ih = pick (full u) refl
        where
          same : second s ≡ pays t
          same = alike s h (λ q. let z : ◌≡◌ {A = ℕ} 0 1 = cc in absurd (omega arith)) ∙ p

          pick : (b : Bool) → full u ≡ b → Sequel s u (cond b (final_of spent s u) (run first full f t (suc u)))
          pick true w = record { goes_on = λ k. let z : ◌≡◌ {A = ℕ} 0 1 = cc in absurd (omega arith); as_it_is = λ k m. whole_spent second measure falls full s u t same w }
          pick false w = moved s t u (suc u) (run first full f t (suc u)) (whole_pays second measure falls full s u t same w) (ih t (suc u) (pays-same s t h p))
