-- Demand 3 of marches. Assumes nothing.
use mathlib.Core.Path.{refl}
use mathlib.Core.List.{[], ◌∷◌}
use Prim.Native.Nat.{ℕ}
use native.Mathlib.Omega.{arith}
use Rattle.std.specs.Prelude.{Ok, Err}
use Rattle.errors.specs.Answer.{Answer, ◌>>=◌}
use Rattle.errors.proofs.Laws.{not_14}
use Rattle.runs.specs.Run.{under_limit, never}
use Rattle.inscribed.specs.Store.{slots_within, circles_from}
use Rattle.inscribed.specs.declared.Inscribed.{Inscribed}
use Rattle.refine.specs.Machine.{refining, measure}
use Rattle.refine.specs.Report.{refused_on_entry, ran}
use Rattle.refine.specs.Law.{LimitLaw}
use Rattle.refine.proofs.MachineLaws.{Sound}
use Rattle.refine.proofs.LawOfRuns.{not-unfinished, still_law, run_law}
use Rattle.camber.specs.March.{Marched, march_step, march_entry, start_of, not_started, after_start, march_after, march_of, plain_march, marched_from, marched_circles}
use Rattle.camber.proofs.MarchMachine.{march_falls, march_grows, march_sound_goes, march_sound_pays}

module _ (m : Marched) where
  start_sound : (c : Inscribed) → Sound m.section m.tol 0 (refining [] (c ∷ []))
  start_sound c = record { held = omega arith; settled = tt }

  -- a march begins with no circle in use
  pub march_law : (limit : ℕ) → LimitLaw m.section m.tol m.store 0 (march_of m) (plain_march m) (λ l. marched_circles m (under_limit l)) limit
  unfolding march_after after_start marched_from
  march_law limit = go (march_entry m)
    where
      begun : (a : Answer Inscribed) → LimitLaw m.section m.tol m.store 0 (λ l. ran (after_start m (under_limit l) a)) (ran (after_start m never a)) (λ l. marched_from m (under_limit l) a) limit
      begun (Err r) = still_law m.section m.tol m.store 0 (ran (not_started m r)) (not-unfinished (Err r)) refl refl refl (not_14 r) limit
      begun (Ok c) =
          run_law (march_step m.section m.tol (slots_within m.slot_limit m.store)) (measure (slots_within m.slot_limit m.store)) (march_falls m.section m.tol (slots_within m.slot_limit m.store)) (march_grows m.section m.tol (slots_within m.slot_limit m.store)) m.section m.tol m.store 0
          (refining [] (c ∷ [])) (unfold circles_from in refl) (omega arith) (start_sound c)
          (march_sound_goes m.section m.tol 0 (slots_within m.slot_limit m.store)) (march_sound_pays m.section m.tol 0 (slots_within m.slot_limit m.store)) limit

      go : (e : Answer (Unit {0})) → LimitLaw m.section m.tol m.store 0 (λ l. march_after m (under_limit l) e) (march_after m never e) (λ l. marched_from m (under_limit l) (e >>= λ passed. start_of m)) limit
      go (Err r) = still_law m.section m.tol m.store 0 (refused_on_entry r m.store) tt refl refl refl (not_14 r) limit
      go (Ok passed) = begun (start_of m)
