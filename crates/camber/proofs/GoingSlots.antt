-- Two slot limits, of goings on, and of the state that a march hands out. Assumes nothing.
use mathlib.Core.Path.{◌≡◌, refl, ap, ◌∙◌}
use mathlib.Core.Bool.{Bool}
use mathlib.Core.List.{[], ◌∷◌}
use Prim.Native.Nat.{ℕ, ◌≤◌}
use native.Mathlib.Omega.{arith}
use lib.ListN.{length}
use Rattle.std.specs.Prelude.{Ok, Err}
use Rattle.errors.specs.Answer.{Answer, ◌>>=◌}
use Rattle.runs.specs.Run.{Final}
use Rattle.inscribed.specs.Store.{slots_within, circles_of}
use Rattle.inscribed.specs.declared.Inscribed.{Inscribed}
use Rattle.refine.specs.Law.{SlotLaw}
use Rattle.refine.specs.Machine.{State, refining, circles_in, End}
use Rattle.refine.specs.Report.{refused_on_entry, ran, reported, count_of}
use Rattle.refine.proofs.SlotEntries.{two_reports, same_calls, same_bad, same_room}
use Rattle.refine.proofs.SlotLaws.{TwoSlotLimits}
use Rattle.camber.specs.March.{Marched, march_entry, start_of, after_start, march_after, state_after}
use Rattle.camber.specs.Paused.{state_from}
use Rattle.camber.specs.Going.{Going, going_entry, going_run, told_of, going_after}
use Rattle.camber.proofs.MarchMachine.{march-fits}
use Rattle.camber.proofs.MarchSlots.{two_marches}
use Rattle.camber.proofs.GoingLimit.{circles_in_use}
use Rattle.camber.proofs.HandedLaws.{passed_room}

-- ---- of marches: the state is the same where the calls are alike

module _ (m : Marched) (few more : ℕ) (full : ℕ → Bool) (larger : few ≤ more) where
  abbrev marched : ℕ → Marched
  marched n = record m { slot_limit = n }

  pub two_states : count_of 0 (march_after (marched more) full (march_entry m)) ≤ few
      → state_after (marched few) full (march_entry m >>= λ passed. start_of m) ≡ state_after (marched more) full (march_entry m >>= λ passed. start_of m)
  unfolding march_after after_start state_after reported
  two_states = go (march_entry m)
    where
      begun : (a : Answer Inscribed) → count_of 0 (ran (after_start (marched more) full a)) ≤ few → state_after (marched few) full a ≡ state_after (marched more) full a
      begun (Err r) h = refl
      begun (Ok c) h =
          let most = march-fits m.section m.tol (slots_within more m.store) full (refining [] (c ∷ [])) 0 (omega arith) in
          let same = (two_marches m.section m.tol (slots_within few m.store) (slots_within more m.store) (omega (arith, larger)) full (refining [] (c ∷ [])) 0 (omega arith)).alike_in_all (omega (arith, h, most, larger)) in
          rw same refl

      go : (e : Answer (Unit {0})) → count_of 0 (march_after (marched more) full e) ≤ few → state_after (marched few) full (e >>= λ passed. start_of m) ≡ state_after (marched more) full (e >>= λ passed. start_of m)
      go (Err r) h = refl
      go (Ok passed) h = begun (start_of m) h

-- ---- of goings on that differ in the slot limit alone

module _ (g : Going) (few more : ℕ) (full : ℕ → Bool) (larger : few ≤ more) (fits : g.count ≤ few) where
  -- the same going on in a store with another slot limit
  abbrev limited : ℕ → Going
  limited n = record g { slot_limit = n }

  same_entry : going_entry (limited few) ≡ going_entry (limited more)
  unfolding going_entry
  same_entry = rw (same_bad few more larger g.store g.count fits, same_room few more larger g.store g.count fits) refl

  abbrev start : State
  start = state_from (circles_of g.store g.count) g.state

  abbrev run_at : ℕ → Final State End
  run_at n = going_run (limited n) full

  module _ (e : going_entry (limited more) ≡ Ok tt) where
    room : g.count ≤ slots_within few g.store
    room = passed_room (limited few) (same_entry ∙ e)

    most_held : length (circles_in (run_at more).state) ≤ slots_within more g.store
    most_held = march-fits g.section g.tol (slots_within more g.store) full start 0 (omega (arith, circles_in_use g, room, larger))

    two_runs : TwoSlotLimits (slots_within few g.store) (run_at few) (run_at more)
    two_runs = two_marches g.section g.tol (slots_within few g.store) (slots_within more g.store) (omega (arith, larger)) full start 0 (omega (arith, circles_in_use g, room))

  pub two_goings : SlotLaw few g.count g.store (going_after (limited few) full (going_entry (limited few))).called (going_after (limited more) full (going_entry (limited more))).called
  unfolding going_after
  two_goings = rw same_entry (go (going_entry (limited more)) refl)
    where
      go : (a : Answer (Unit {0})) → going_entry (limited more) ≡ a → SlotLaw few g.count g.store (going_after (limited few) full a).called (going_after (limited more) full a).called
      go (Err r) e = same_calls (refused_on_entry r g.store) fits
      go (Ok passed) e = two_reports few (slots_within few g.store) g.store g.count (run_at few) (run_at more) (two_runs e) (λ h. omega (arith, h, most_held e, larger)) (λ h. omega (arith, h, most_held e, larger))

  -- where they are alike, the state is too
  pub same_goings : count_of g.count (going_after (limited more) full (going_entry (limited more))).called ≤ few
      → going_after (limited few) full (going_entry (limited few)) ≡ going_after (limited more) full (going_entry (limited more))
  unfolding going_after reported
  same_goings = rw same_entry (go (going_entry (limited more)) refl)
    where
      go : (a : Answer (Unit {0})) → going_entry (limited more) ≡ a → count_of g.count (going_after (limited more) full a).called ≤ few → going_after (limited few) full a ≡ going_after (limited more) full a
      go (Err r) e h = refl
      go (Ok passed) e h = ap (told_of g.store) ((two_runs e).alike_in_all (omega (arith, h, most_held e, larger)))
