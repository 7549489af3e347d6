-- The limit law of a list that is offered: the refinements of its circles, one behind the other, are a family of runs like that of one. Assumes nothing.
use mathlib.Core.Path.{◌≡◌, refl, ap}
use mathlib.Core.Bool.{Bool, true}
use mathlib.Core.List.{List, [], ◌∷◌}
use mathlib.Core.Logic.{◌⊎◌, inl, inr, ⊎_elim}
use Rattle.std.specs.Prelude.{Ok, Err}
use Prim.Native.Nat.{ℕ, suc, ◌≤◌, ◌<◌}
use native.Mathlib.Omega.{arith}
use lib.Ieee.{Float}
use Rattle.errors.specs.Answer.{Answer}
use Rattle.errors.proofs.Laws.{not_14}
use Rattle.runs.specs.Run.{Move, Ending, ended, spent, unfinished, Final, under_limit, never, whole}
use Rattle.runs.proofs.LimitLaws.{Limited, part_grows, run_holds, compared, units_grow, units_within, spent-units, never-spent, finishes}
use Rattle.inscribed.specs.Store.{slots_within, circles_of}
use Rattle.inscribed.specs.declared.Inscribed.{Inscribed}
use Rattle.inscribed.proofs.StoreLaws.{length-circles}
use Rattle.refine.specs.Machine.{State, refining, circles_in, End, finished, measure, refine_step, refine_run}
use Rattle.refine.specs.Report.{refused_on_entry}
use Rattle.refine.specs.Law.{LimitLaw, old_last}
use Rattle.refine.specs.Offers.{Offers, offers_entry, after_one, offers_run, after_offers_entry, refinements, refine_all_of, plain_refine_all, accepted_of_all, all_accepted}
use Rattle.refine.proofs.MachineLaws.{Part, part_same, part_chain, refine_grows, Sound, refine_sound_goes, refine_sound_pays}
use Rattle.refine.proofs.MoveLaws.{refine_falls}
use Rattle.refine.proofs.LawOfRuns.{not-unfinished, still_law, short-settled, short_last, family_law}
use Rattle.refine.proofs.OffersLaws.{offers_count}
use Rattle.refine.proofs.RefinementLaw.{within_slots}

module _ (ns : List Float) (tol : Float) (slots : ℕ) where
  abbrev step : State → Move State End
  step = refine_step ns tol slots

  abbrev start : List Inscribed → Inscribed → State
  start cs b = refining cs (b ∷ [])

  abbrev fuel : List Inscribed → Inscribed → ℕ
  fuel cs b = suc (measure slots (start cs b))

  -- one refinement, and all that follow
  abbrev one : (ℕ → Bool) → List Inscribed → Inscribed → ℕ → Final State End
  one full cs b u = refine_run ns tol slots full cs (b ∷ []) u

  abbrev all : (ℕ → Bool) → List Inscribed → List Inscribed → ℕ → Final State End
  all full cs bs u = offers_run ns tol slots full cs bs u

  -- what holds of one refinement from any list and units on, and is handed on, holds of all
  module _ (full : ℕ → Bool) (Holds : List Inscribed → ℕ → Final State End → Type 0)
      (none : (cs : List Inscribed) (u : ℕ) → Holds cs u (all full cs [] u))
      (first : (cs : List Inscribed) (b : Inscribed) (u : ℕ) → Holds cs u (one full cs b u))
      (chain : (cs : List Inscribed) (b : Inscribed) (u : ℕ) (p : Final State End) → Holds (circles_in (one full cs b u).state) (one full cs b u).units p → Holds cs u p) where
    all_hold : (bs cs : List Inscribed) (u : ℕ) → Holds cs u (all full cs bs u)
    unfolding offers_run
    all_hold [] cs u = none cs u
    all_hold (b ∷ bs) cs u = go (one full cs b u).ending (λ ds v. all_hold bs ds v)
      where
        go : (e : Ending End) → ((ds : List Inscribed) (v : ℕ) → Holds ds v (all full ds bs v)) → Holds cs u (after_one (λ ds v. all full ds bs v) (one full cs b u) e)
        go (ended (Ok done)) ih = chain cs b u _ (ih (circles_in (one full cs b u).state) (one full cs b u).units)
        go (ended (Err r)) ih = first cs b u
        go spent ih = first cs b u
        go unfinished ih = first cs b u

  grow_all : (full : ℕ → Bool) (bs cs : List Inscribed) (u : ℕ) → u ≤ (all full cs bs u).units
  unfolding offers_run whole
  grow_all full =
      all_hold full (λ cs u p. u ≤ p.units) (λ cs u. omega arith) (λ cs b u. units_grow step full (fuel cs b) (start cs b) u)
      (λ cs b u p h. let g = units_grow step full (fuel cs b) (start cs b) u in omega (arith, g, h))

  part_all : (full : ℕ → Bool) (bs cs : List Inscribed) (u : ℕ) → Part (refining cs []) (all full cs bs u).state
  unfolding offers_run whole
  part_all full =
      all_hold full (λ cs u p. Part (refining cs []) p.state) (λ cs u. part_same (refining cs [])) (λ cs b u. part_grows step Part (refine_grows ns tol slots) full (fuel cs b) (start cs b) u)
      (λ cs b u p h. part_chain (refining cs []) (refining (circles_in (one full cs b u).state) []) p.state (part_grows step Part (refine_grows ns tol slots) full (fuel cs b) (start cs b) u) h)

  within_all : (limit : ℕ) (bs cs : List Inscribed) (u : ℕ) → u ≤ limit → (all (under_limit limit) cs bs u).units ≤ limit
  unfolding offers_run whole
  within_all limit =
      all_hold (under_limit limit) (λ cs u p. u ≤ limit → p.units ≤ limit) (λ cs u h. h) (λ cs b u h. units_within step limit (fuel cs b) (start cs b) u h)
      (λ cs b u p k h. k (units_within step limit (fuel cs b) (start cs b) u h))

  all_units : (limit : ℕ) (bs cs : List Inscribed) (u : ℕ) → u ≤ limit → (all (under_limit limit) cs bs u).ending ≡ spent → (all (under_limit limit) cs bs u).units ≡ limit
  unfolding offers_run whole
  all_units limit =
      all_hold (under_limit limit) (λ cs u p. u ≤ limit → p.ending ≡ spent → p.units ≡ limit) (λ cs u h e. let z : ◌≡◌ {A = ℕ} 0 1 = cc in absurd (omega arith))
      (λ cs b u h e. spent-units step limit (fuel cs b) (start cs b) u h e)
      (λ cs b u p k h. k (units_within step limit (fuel cs b) (start cs b) u h))

  unlimited_all : (bs cs : List Inscribed) (u : ℕ) → (all never cs bs u).ending ≡ spent → ⊥
  unfolding offers_run whole
  unlimited_all =
      all_hold never (λ cs u p. p.ending ≡ spent → ⊥) (λ cs u e. let z : ◌≡◌ {A = ℕ} 0 1 = cc in absurd (omega arith)) (λ cs b u e. never-spent step (fuel cs b) (start cs b) u e) (λ cs b u p h. h)

  over_all : (full : ℕ → Bool) (bs cs : List Inscribed) (u : ℕ) → (all full cs bs u).ending ≡ unfinished → ⊥
  unfolding offers_run
  over_all full =
      all_hold full (λ cs u p. p.ending ≡ unfinished → ⊥) (λ cs u. not-unfinished finished) (λ cs b u. finishes step (measure slots) (refine_falls ns tol slots) full (start cs b) u) (λ cs b u p h. h)

  sound_one : (k : ℕ) (full : ℕ → Bool) (cs : List Inscribed) (b : Inscribed) (u : ℕ) → Sound ns tol k (refining cs []) → Sound ns tol k (one full cs b u).state
  unfolding whole
  sound_one k full cs b u h = run_holds step full (Sound ns tol k) (refine_sound_goes ns tol k slots) (refine_sound_pays ns tol k slots) (fuel cs b) (start cs b) u (record { held = h.held; settled = h.settled })

  sound_all : (k : ℕ) (full : ℕ → Bool) (bs cs : List Inscribed) (u : ℕ) → Sound ns tol k (refining cs []) → Sound ns tol k (all full cs bs u).state
  unfolding offers_run
  sound_all k full =
      all_hold full (λ cs u p. Sound ns tol k (refining cs []) → Sound ns tol k p.state) (λ cs u h. h) (sound_one k full)
      (λ cs b u p f h. let s = sound_one k full cs b u h in f (record { held = s.held; settled = s.settled }))

  -- two limits
  abbrev Compared : Final State End → Final State End → Type 0
  Compared p q = (p ≡ q) ⊎ ((p.ending ≡ spent) × (p.units < q.units) × Part p.state q.state)

  -- what follows one refinement only adds to it
  after_grows : (full : ℕ → Bool) (bs : List Inscribed) (q : Final State End) (e : Ending End)
      → (q.units ≤ (after_one (λ ds v. all full ds bs v) q e).units) × Part q.state (after_one (λ ds v. all full ds bs v) q e).state
  after_grows full bs q (ended (Ok done)) = (grow_all full bs (circles_in q.state) q.units, part_all full bs (circles_in q.state) q.units)
  after_grows full bs q (ended (Err r)) = (omega arith, part_same q.state)
  after_grows full bs q spent = (omega arith, part_same q.state)
  after_grows full bs q unfinished = (omega arith, part_same q.state)

  module _ (small large : ℕ → Bool) (sooner : (u : ℕ) → large u ≡ true → small u ≡ true) where
    compared_all : (bs cs : List Inscribed) (u : ℕ) → Compared (all small cs bs u) (all large cs bs u)
    unfolding offers_run whole
    compared_all [] cs u = inl refl
    compared_all (b ∷ bs) cs u = ⊎_elim (λ e. alike (λ ds v. compared_all bs ds v) e) (λ k. cut k.0 k.1 k.2) (compared step Part (refine_grows ns tol slots) small large sooner (fuel cs b) (start cs b) u)
      where
        on_small : List Inscribed → ℕ → Final State End
        on_small ds v = all small ds bs v

        on_large : List Inscribed → ℕ → Final State End
        on_large ds v = all large ds bs v

        both : ((ds : List Inscribed) (v : ℕ) → Compared (on_small ds v) (on_large ds v)) → (o : Final State End) (e : Ending End) → Compared (after_one on_small o e) (after_one on_large o e)
        both ih o (ended (Ok done)) = ih (circles_in o.state) o.units
        both ih o (ended (Err r)) = inl refl
        both ih o spent = inl refl
        both ih o unfinished = inl refl

        alike : ((ds : List Inscribed) (v : ℕ) → Compared (on_small ds v) (on_large ds v)) → one small cs b u ≡ one large cs b u → Compared (after_one on_small (one small cs b u) (one small cs b u).ending) (after_one on_large (one large cs b u) (one large cs b u).ending)
        alike ih e = rw e (both ih (one large cs b u) (one large cs b u).ending)

        cut : (one small cs b u).ending ≡ spent → (one small cs b u).units < (one large cs b u).units → Part (one small cs b u).state (one large cs b u).state
            → Compared (after_one on_small (one small cs b u) (one small cs b u).ending) (after_one on_large (one large cs b u) (one large cs b u).ending)
        cut e h p =
            let g = after_grows large bs (one large cs b u) (one large cs b u).ending in
            let is : after_one on_small (one small cs b u) (one small cs b u).ending ≡ one small cs b u = ap (λ (x : Ending End). after_one on_small (one small cs b u) x) e in
            rw is (inr (e, omega (arith, g.0, h), part_chain (one small cs b u).state (one large cs b u).state (after_one on_large (one large cs b u) (one large cs b u).ending).state p g.1))

  pub limited_all : (bs cs : List Inscribed) → Limited (λ full. all full cs bs 0) Part
  limited_all bs cs = record {
    same = part_same;
    compared_runs = λ small large sooner. compared_all small large sooner bs cs 0;
    within = λ limit. within_all limit bs cs 0 (omega arith);
    all_units = λ limit e. all_units limit bs cs 0 (omega arith) e;
    unlimited = λ e. unlimited_all bs cs 0 e;
  }

-- ---- of the call

module _ (o : Offers) where
  abbrev olds : List Inscribed
  olds = circles_of o.store o.count

  abbrev offered : List Inscribed
  offered = circles_of o.offered o.offered_count

  abbrev room : ℕ
  room = slots_within o.slot_limit o.store

  olds_sound : Sound o.section o.tol o.count (refining olds [])
  olds_sound = record { held = omega (arith, length-circles o.store 0 o.count); settled = short-settled o.section o.tol (old_last o.store o.count) (short_last o.store o.count) }

  pub offers_law : (limit : ℕ) → LimitLaw o.section o.tol o.store o.count (refine_all_of o) (plain_refine_all o) (λ l. all_accepted o (under_limit l)) limit
  unfolding refinements after_offers_entry accepted_of_all
  offers_law limit = go (offers_entry o) refl
    where
      go : (a : Answer (Unit {0})) → offers_entry o ≡ a
          → LimitLaw o.section o.tol o.store o.count (λ l. after_offers_entry o (under_limit l) a) (after_offers_entry o never a) (λ l. accepted_of_all o (under_limit l) a) limit
      go (Err r) e = still_law o.section o.tol o.store o.count (refused_on_entry r o.store) tt refl refl refl (not_14 r) limit
      go (Ok passed) e =
          family_law (λ full. offers_run o.section o.tol room full olds offered 0) (limited_all o.section o.tol room offered olds)
          (λ full. over_all o.section o.tol room full offered olds 0) o.section o.tol o.store o.count (within_slots o.slot_limit o.store o.count (offers_count o e))
          (λ full. part_all o.section o.tol room full offered olds 0) (λ full. sound_all o.section o.tol room o.count full offered olds 0 olds_sound) limit
