-- Demand 3 of refinements. Assumes nothing.
use mathlib.Core.Path.{◌≡◌, refl, ap}
use mathlib.Core.Bool.{Bool, true, false, cond}
use mathlib.Core.List.{List, [], ◌∷◌, ◌++◌}
use mathlib.Core.Logic.{inl, ⊎_elim}
use Prim.Native.Nat.{ℕ, suc, ◌*◌, ◌≤◌}
use native.Mathlib.Omega.{arith}
use borrow.Author.Tests.{ltb-false}
use lib.Dec.{leb}
use lib.ListN.{length, drop, length-append}
use lib.Seq.{drop-append-le}
use lib.Ieee.{Float}
use Rattle.std.specs.Prelude.{Ok, Err}
use Rattle.errors.specs.Answer.{Answer}
use Rattle.errors.proofs.Laws.{not_0, not_14}
use Rattle.curve2.specs.Entry.{HasPoints}
use Rattle.curve2.proofs.Laws.{entry_passed, entry_room}
use Rattle.runs.specs.Run.{Move, ends, goes, under_limit, never, whole}
use Rattle.runs.proofs.LimitLaws.{run_holds, ended_step}
use Rattle.inscribed.specs.Store.{width, slots_within, circles_of}
use Rattle.inscribed.specs.declared.Inscribed.{Inscribed}
use Rattle.inscribed.proofs.StoreLaws.{length-circles}
use Rattle.refine.specs.Machine.{State, refining, advancing, stopped, circles_in, End, finished, refine_move, measure, refine_step}
use Rattle.refine.specs.Report.{Report, refused_on_entry, ran, reported}
use Rattle.refine.specs.Refinement.{Offer, refine_entry, offered_run, after_entry, refinement, refine_of, plain_refinement, accepted_after, accepted}
use Rattle.refine.specs.Law.{old_last, LimitLaw, OfferedLast}
use Rattle.refine.proofs.MachineLaws.{refine_grows, Sound, refine_sound_goes, refine_sound_pays, Kept, refine_offered_goes, refine_offered_pays}
use Rattle.refine.proofs.LawOfRuns.{result-number, still_law, run_law, short-settled, short_last}
use Rattle.refine.proofs.MoveLaws.{refine_falls}
use Rattle.errors.specs.declared.Refusal.TheVariants.{StoreFull}

pub within_slots : (slot_limit : ℕ) (ns : List Float) (count : ℕ) → count ≤ slots_within slot_limit ns → width * count ≤ length ns
within_slots slot_limit ns count h = omega arith

module _ (o : Offer) where
  abbrev olds : List Inscribed
  olds = circles_of o.store o.count

  abbrev step : State → Move State End
  step = refine_step o.section o.tol (slots_within o.slot_limit o.store)

  abbrev start : State
  start = refining olds (o.circle ∷ [])

  pub entry_count : refine_entry o ≡ Ok tt → o.count ≤ slots_within o.slot_limit o.store
  unfolding refine_entry
  entry_count e = ltb-false (slots_within o.slot_limit o.store) o.count (entry_room _ _ _ e)

  pub entry_points : refine_entry o ≡ Ok tt → HasPoints o.section
  unfolding refine_entry
  entry_points e = (entry_passed _ _ _ e).points

  start_sound : Sound o.section o.tol o.count start
  start_sound = record { held = omega (arith, length-circles o.store 0 o.count); settled = short-settled o.section o.tol (old_last o.store o.count) (short_last o.store o.count) }

  pub refine_law : (limit : ℕ) → LimitLaw o.section o.tol o.store o.count (refine_of o) (plain_refinement o) (λ l. accepted o (under_limit l)) limit
  unfolding refinement after_entry accepted_after
  refine_law limit = go (refine_entry o) refl
    where
      go : (a : Answer (Unit {0})) → refine_entry o ≡ a
          → LimitLaw o.section o.tol o.store o.count (λ l. after_entry o (under_limit l) a) (after_entry o never a) (λ l. accepted_after o (under_limit l) a) limit
      go (Err r) e = still_law o.section o.tol o.store o.count (refused_on_entry r o.store) tt refl refl refl (not_14 r) limit
      go (Ok passed) e =
          run_law step (measure (slots_within o.slot_limit o.store)) (refine_falls o.section o.tol (slots_within o.slot_limit o.store)) (refine_grows o.section o.tol (slots_within o.slot_limit o.store)) o.section o.tol o.store o.count start
          refl (within_slots o.slot_limit o.store o.count (entry_count e)) start_sound
          (refine_sound_goes o.section o.tol o.count (slots_within o.slot_limit o.store)) (refine_sound_pays o.section o.tol o.count (slots_within o.slot_limit o.store)) limit

  -- ---- the offered circle

  start_kept : Kept o.section o.tol o.count (slots_within o.slot_limit o.store) o.circle start
  start_kept = (omega (arith, length-circles o.store 0 o.count), inl ([], refl))

  finished_offered : (s : State) → Kept o.section o.tol o.count (slots_within o.slot_limit o.store) o.circle s → step s ≡ ends finished → (before : List Inscribed) × (drop o.count (circles_in s) ≡ before ++ (o.circle ∷ []))
  unfolding refine_step refine_move
  finished_offered (refining cs []) h e = ⊎_elim (λ q. none_below q) (λ q. last_one q.1 q.2 q.3) h.1
    where
      none_below : ((before : List Inscribed) × (◌≡◌ {A = List Inscribed} [] (before ++ (o.circle ∷ [])))) → (before : List Inscribed) × (drop o.count cs ≡ before ++ (o.circle ∷ []))
      none_below q = absurd (omega (arith, ap length q.1, length-append q.0 (o.circle ∷ [])))

      last_one : (before : List Inscribed) → cs ≡ before ++ (o.circle ∷ []) → o.count ≤ length before → (after : List Inscribed) × (drop o.count cs ≡ after ++ (o.circle ∷ []))
      last_one before q l = (drop o.count before, rw q (drop-append-le o.count before (o.circle ∷ []) l))
  finished_offered (refining [] (b ∷ ws)) h e = go (leb (slots_within o.slot_limit o.store) 0) e
    where
      go : (x : Bool) → cond {A = Move State End} x (ends (Err StoreFull)) (goes (refining (b ∷ []) ws)) ≡ ends finished → (before : List Inscribed) × (drop o.count [] ≡ before ++ (o.circle ∷ []))
      go true q = let z : ◌≡◌ {A = ℕ} 0 1 = cc in absurd (omega arith)
      go false q = let z : ◌≡◌ {A = ℕ} 0 1 = cc in absurd (omega arith)
  finished_offered (refining (c ∷ cs) (b ∷ ws)) h e = let z : ◌≡◌ {A = ℕ} 0 1 = cc in absurd (omega arith)
  finished_offered (advancing cs k) h e = absurd h.1
  finished_offered (stopped cs n) h e = let z : ◌≡◌ {A = ℕ} 0 1 = cc in absurd (omega arith)

  pub offered_law : (limit : ℕ) → OfferedLast o.circle (refine_of o) (λ l. accepted o (under_limit l)) limit
  unfolding refinement after_entry accepted_after reported whole
  offered_law limit = go (refine_entry o)
    where
      go : (a : Answer (Unit {0})) → OfferedLast o.circle (λ l. after_entry o (under_limit l) a) (λ l. accepted_after o (under_limit l) a) limit
      go (Err r) = λ e. absurd (not_0 r e)
      go (Ok passed) =
          λ e.
          finished_offered (offered_run o (under_limit limit)).state
          (run_holds step (under_limit limit) (Kept o.section o.tol o.count (slots_within o.slot_limit o.store) o.circle)
          (refine_offered_goes o.section o.tol o.count (slots_within o.slot_limit o.store) o.circle) (refine_offered_pays o.section o.tol o.count (slots_within o.slot_limit o.store) o.circle)
          (suc (measure (slots_within o.slot_limit o.store) start)) start 0 start_kept)
          (ended_step step (under_limit limit) (suc (measure (slots_within o.slot_limit o.store) start)) start 0 finished (result-number _ e).1)

-- what a call tells of the store that its run leaves, which has two names
pub ran_in : {A : Type 0} (told : List Float → Report A) (store again : List Float) (o : Report A) → store ≡ again → told again ≡ o → ran (told store) ≡ ran o
ran_in told store again o same e = rw (same, e) refl
