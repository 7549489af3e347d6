-- A thinning as a run of its machine: that it ends, which circles a finished one keeps and how many trials it has made, and what holds of the kept ones. Assumes nothing.
use mathlib.Core.Path.{◌≡◌, refl, sym, ap, ◌∙◌}
use mathlib.Core.Bool.{Bool, true, false}
use mathlib.Core.List.{List, [], ◌∷◌, ◌++◌, append_assoc, append-nil}
use mathlib.Core.Logic.{◌⊎◌, inl, inr}
use Rattle.std.specs.Prelude.{Option, Some, None, Ok, Err}
use Prim.Native.Nat.{ℕ, suc, ◌+◌, ◌-◌, ◌≤◌, ◌<◌}
use native.Mathlib.Omega.{arith}
use lib.ListN.{length}
use lib.Ieee.{Float}
use Rattle.errors.specs.Answer.{Answer}
use Rattle.errors.specs.Lists.{last_of}
use Rattle.curve2.proofs.Laws.{or_left, or_right}
use Rattle.runs.specs.Run.{Move, goes, pays, Ending, ended, spent, Final, final_of, whole}
use Rattle.runs.proofs.RunLaws.{Falls, whole_ends, whole_goes, whole_pays, whole_spent}
use Rattle.circles.specs.Trial.{trial}
use Rattle.inscribed.specs.Store.{bad_circle, any_bad}
use Rattle.inscribed.specs.declared.Inscribed.{Inscribed}
use Rattle.refine.specs.Machine.{End, finished}
use Rattle.refine.specs.Law.{Settled}
use Rattle.refine.specs.Thinning.{ThinState, thinning, trial_refused, after_pair, thin_step, thin_measure}
use Rattle.refine.specs.ThinLaw.{Adds}
use Rattle.refine.proofs.MoveLaws.{no_goes, no_pays, pays_no_goes, goes_no_pays}

-- ---- it ends

pair_falls : (ks : List Inscribed) (b : Inscribed) (cs : List Inscribed) (r : Answer (Option Inscribed)) → thin_measure (after_pair ks b cs r) < thin_measure (thinning ks (b ∷ cs))
unfolding after_pair thin_measure
pair_falls ks b cs (Err r) = omega arith
pair_falls ks b cs (Ok None) = omega arith
pair_falls ks b cs (Ok (Some d)) = omega arith

goes_to : {s t : ThinState} → ◌≡◌ {A = Move ThinState End} (goes s) (goes t) → t ≡ s
goes_to p = cc

pays_to : {s t : ThinState} → ◌≡◌ {A = Move ThinState End} (pays s) (pays t) → t ≡ s
pays_to p = cc

pub thin_falls : (ns : List Float) (tol : Float) → Falls (thin_step ns tol) thin_measure
unfolding thin_step thin_measure
thin_falls ns tol (thinning ks []) t = (λ p. no_goes p, λ p. no_pays p)
thin_falls ns tol (thinning [] (c ∷ cs)) t = (λ p. rw (goes_to p) (omega arith), λ p. goes_no_pays p)
thin_falls ns tol (thinning (k ∷ ks) (c ∷ [])) t = (λ p. rw (goes_to p) (omega arith), λ p. goes_no_pays p)
thin_falls ns tol (thinning (k ∷ ks) (b ∷ (c ∷ cs))) t = (λ p. pays_no_goes p, λ p. rw (pays_to p) (pair_falls (k ∷ ks) b (c ∷ cs) _))
thin_falls ns tol (trial_refused r) t = (λ p. no_goes p, λ p. no_pays p)

-- ---- what a finished one keeps, behind a kept circle a: of cs the circles `more`

abbrev pub Keeps : List Float → Float → Inscribed → List Inscribed → List Inscribed → Type 0
Keeps ns tol a [] more = more ≡ []
Keeps ns tol a (z ∷ []) more = more ≡ z ∷ []
Keeps ns tol a (b ∷ (c ∷ cs)) more =
    ((trial ns tol a c ≡ Ok None) × Keeps ns tol a (c ∷ cs) more)
    ⊎ (Adds (trial ns tol a c) × (rest : List Inscribed) × (more ≡ b ∷ rest) × Keeps ns tol b (c ∷ cs) rest)

pub last_more : (c : Inscribed) (cs : List Inscribed) (b : Inscribed) → last_of c (cs ++ (b ∷ [])) ≡ b
unfolding last_of
last_more c [] b = refl
last_more c (d ∷ cs) b = last_more d cs b

module _ (ns : List Float) (tol : Float) (full : ℕ → Bool) where
  abbrev pub thin_from : ThinState → ℕ → Final ThinState End
  thin_from s u = whole (thin_step ns tol) thin_measure full s u

  -- a finished run from kept circles k and ks on, with those of cs still to come
  pub record Finished (k : Inscribed) (ks cs : List Inscribed) (u : ℕ) (o : Final ThinState End) : Type 0 where
    pub more : List Inscribed
    pub keeps : Keeps ns tol (last_of k ks) cs more
    pub state : o.state ≡ thinning ((k ∷ ks) ++ more) []
    pub units : o.units ≡ u + (length cs - 1)

  other_ending : {A : Type 0} (o : Final ThinState End) (e : Ending End) (s : ThinState) (u : ℕ) → o ≡ final_of e s u → (e ≡ ended finished → ⊥) → o.ending ≡ ended finished → A
  other_ending o e s u p n q = absurd (n (sym (ap (λ (x : Final ThinState End). x.ending) p) ∙ q))

  finished_pair : (k : Inscribed) (ks : List Inscribed) (b c : Inscribed) (cs : List Inscribed) (u : ℕ)
      → ((l : Inscribed) (ls : List Inscribed) (v : ℕ) → (thin_from (thinning (l ∷ ls) (c ∷ cs)) v).ending ≡ ended finished → Finished l ls (c ∷ cs) v (thin_from (thinning (l ∷ ls) (c ∷ cs)) v))
      → (r : Answer (Option Inscribed)) → trial ns tol (last_of k ks) c ≡ r
      → (thin_from (after_pair (k ∷ ks) b (c ∷ cs) r) (suc u)).ending ≡ ended finished → Finished k ks (b ∷ (c ∷ cs)) u (thin_from (after_pair (k ∷ ks) b (c ∷ cs) r) (suc u))
  unfolding after_pair thin_step
  finished_pair k ks b c cs u ih (Err r) e p =
      other_ending (thin_from (trial_refused r) (suc u)) (ended (Err r)) (trial_refused r) (suc u) (whole_ends (thin_step ns tol) thin_measure (thin_falls ns tol) full (trial_refused r) (suc u) (Err r) refl)
      (λ q. let z : ◌≡◌ {A = ℕ} 0 1 = cc in absurd (omega arith)) p
  finished_pair k ks b c cs u ih (Ok None) e p = let f = ih k ks (suc u) p in record { more = f.more; keeps = inl (e, f.keeps); state = f.state; units = omega (arith, f.units) }
  finished_pair k ks b c cs u ih (Ok (Some d)) e p =
      let f = ih k (ks ++ (b ∷ [])) (suc u) p in
      record {
        more = b ∷ f.more;
        keeps = inr ((d, e), f.more, refl, rw (last_more k ks b) at f.keeps);
        state = f.state ∙ ap (λ (x : List Inscribed). thinning x []) (append_assoc (k ∷ ks) (b ∷ []) f.more);
        units = omega (arith, f.units);
      }

  pub finished_from : (cs : List Inscribed) (k : Inscribed) (ks : List Inscribed) (u : ℕ) → (thin_from (thinning (k ∷ ks) cs) u).ending ≡ ended finished → Finished k ks cs u (thin_from (thinning (k ∷ ks) cs) u)
  unfolding thin_step
  finished_from [] k ks u p =
      rw (whole_ends (thin_step ns tol) thin_measure (thin_falls ns tol) full (thinning (k ∷ ks) []) u finished refl)
      (record { more = []; keeps = refl; state = ap (λ (x : List Inscribed). thinning x []) (sym (append-nil (k ∷ ks))); units = omega arith })
  finished_from (z ∷ []) k ks u p =
      rw (
        whole_goes (thin_step ns tol) thin_measure (thin_falls ns tol) full (thinning (k ∷ ks) (z ∷ [])) u (thinning ((k ∷ ks) ++ (z ∷ [])) []) refl,
        whole_ends (thin_step ns tol) thin_measure (thin_falls ns tol) full (thinning ((k ∷ ks) ++ (z ∷ [])) []) u finished refl,
      )
      (record { more = z ∷ []; keeps = refl; state = refl; units = omega arith })
  finished_from (b ∷ (c ∷ cs)) k ks u p = pick (full u) refl (finished_from (c ∷ cs))
    where
      state : ThinState
      state = thinning (k ∷ ks) (b ∷ (c ∷ cs))

      next : ThinState
      next = after_pair (k ∷ ks) b (c ∷ cs) (trial ns tol (last_of k ks) c)

      pick : (x : Bool) → full u ≡ x
          → ((l : Inscribed) (ls : List Inscribed) (v : ℕ) → (thin_from (thinning (l ∷ ls) (c ∷ cs)) v).ending ≡ ended finished → Finished l ls (c ∷ cs) v (thin_from (thinning (l ∷ ls) (c ∷ cs)) v))
          → Finished k ks (b ∷ (c ∷ cs)) u (thin_from state u)
      pick true w ih =
          other_ending (thin_from state u) spent state u (whole_spent (thin_step ns tol) thin_measure (thin_falls ns tol) full state u next refl w)
          (λ q. let z : ◌≡◌ {A = ℕ} 0 1 = cc in absurd (omega arith)) p
      pick false w ih =
          let m = whole_pays (thin_step ns tol) thin_measure (thin_falls ns tol) full state u next refl w in
          rw m (finished_pair k ks b c cs u ih (trial ns tol (last_of k ks) c) refl (rw m at p))

-- ---- what holds of the kept ones

module _ (ns : List Float) (tol : Float) where
  -- "If no neighbouring pair would be refined before, none would be after."
  pub keeps_settled : (cs : List Inscribed) (a : Inscribed) (more : List Inscribed) → Keeps ns tol a cs more → Settled ns tol (a ∷ cs) → Settled ns tol (a ∷ more)
  keeps_settled [] a more k s = rw k tt
  keeps_settled (z ∷ []) a more k s = rw k s
  keeps_settled (b ∷ (c ∷ cs)) a more (inl k) s = keeps_settled (c ∷ cs) a more k.1 (k.0, s.1.1)
  keeps_settled (b ∷ (c ∷ cs)) a more (inr k) s = rw k.2 (s.0, keeps_settled (c ∷ cs) b k.1 k.3 s.1)

  pub keeps_few : (cs : List Inscribed) (a : Inscribed) (more : List Inscribed) → Keeps ns tol a cs more → length more ≤ length cs
  keeps_few [] a more k = rw k (omega arith)
  keeps_few (z ∷ []) a more k = rw k (omega arith)
  keeps_few (b ∷ (c ∷ cs)) a more (inl k) = omega (arith, keeps_few (c ∷ cs) a more k.1)
  keeps_few (b ∷ (c ∷ cs)) a more (inr k) = rw k.2 (omega (arith, keeps_few (c ∷ cs) b k.1 k.3))

  -- the circles kept pass the test of 2 where all did
  pub keeps_good : (cs : List Inscribed) (a : Inscribed) (more : List Inscribed) → Keeps ns tol a cs more → any_bad cs ≡ false → any_bad more ≡ false
  unfolding any_bad
  keeps_good [] a more k g = rw k refl
  keeps_good (z ∷ []) a more k g = rw k g
  keeps_good (b ∷ (c ∷ cs)) a more (inl k) g = keeps_good (c ∷ cs) a more k.1 (or_right (bad_circle b) _ g)
  keeps_good (b ∷ (c ∷ cs)) a more (inr k) g = rw (k.2, or_left (bad_circle b) _ g, keeps_good (c ∷ cs) b k.1 k.3 (or_right (bad_circle b) _ g)) refl
