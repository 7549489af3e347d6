-- Two slot limits: a march with the smaller is that with the larger, or it ends in 15 with as many of the larger's first circles as there are slots. Assumes nothing.
use mathlib.Core.Path.{◌≡◌, refl}
use mathlib.Core.Bool.{Bool}
use mathlib.Core.List.{List, [], ◌∷◌}
use Prim.Native.Nat.{ℕ, ◌≤◌}
use native.Mathlib.Omega.{arith}
use lib.Ieee.{Float}
use Rattle.std.specs.Prelude.{Ok, Err}
use Rattle.errors.specs.Answer.{Answer}
use Rattle.errors.specs.Lists.{last_of}
use Rattle.runs.proofs.RoomLaws.{Parts, alike}
use Rattle.inscribed.specs.Store.{slots_within}
use Rattle.inscribed.specs.declared.Inscribed.{Inscribed}
use Rattle.refine.specs.Law.{SlotLaw}
use Rattle.refine.specs.Machine.{State, refining, advancing, stopped}
use Rattle.refine.specs.Report.{refused_on_entry, ran}
use Rattle.refine.proofs.MoveLaws.{no_goes, no_pays, goes_no_pays}
use Rattle.refine.proofs.SlotEntries.{two_reports, same_calls}
use Rattle.refine.proofs.SlotLaws.{HasRoom, HasMore, First, move_parts, TwoSlotLimits, two_slot_limits}
use Rattle.advance.specs.Advance.{look_ahead}
use Rattle.camber.specs.March.{Marched, march_entry, start_of, started_run, not_started, after_start, march_after, march_step, march_run}
use Rattle.camber.proofs.MarchMachine.{advance-goes, advance-pays, march_falls, march_grows, march-fits}
use Rattle.errors.specs.declared.Refusal.TheVariants.{StoreFull}

module _ (ns : List Float) (tol : Float) (m more : ℕ) (larger : m ≤ more) where
  march_parts : (s : State) → HasRoom m s → Parts (march_step ns tol m) (march_step ns tol more) (Err StoreFull) (HasRoom m) (HasMore m) (First m) s
  unfolding march_step
  march_parts (refining cs []) h = alike refl (λ t p. let e : t ≡ advancing cs 0 = cc in rw e h) (λ t p. goes_no_pays p)
  march_parts (refining cs (b ∷ ws)) h = move_parts m ns tol more larger (march_step ns tol m) (march_step ns tol more) (λ x y z. refl) (λ x y z. refl) (λ x. refl) cs b ws h
  march_parts (advancing [] k) h = alike refl (λ t p. no_goes p) (λ t p. no_pays p)
  march_parts (advancing (c ∷ cs) k) h =
      alike refl
      (λ t p. advance-goes ns tol more (c ∷ cs) (last_of c cs) k (look_ahead ns (last_of c cs)) t p)
      (λ t p. rw (advance-pays ns tol more (c ∷ cs) (last_of c cs) k (look_ahead ns (last_of c cs)) t p).kept h)
  march_parts (stopped cs r) h = alike refl (λ t p. no_goes p) (λ t p. no_pays p)

  -- from any state on that fits the smaller limit
  pub two_marches : (full : ℕ → Bool) (s : State) (u : ℕ) → HasRoom m s → TwoSlotLimits m (march_run ns tol m full s u) (march_run ns tol more full s u)
  two_marches full s u h =
      two_slot_limits m more larger (march_step ns tol m) (march_step ns tol more) (march_falls ns tol m) (march_falls ns tol more) (march_grows ns tol more) march_parts full s u h

-- ---- two marches that differ in the slot limit alone

module _ (m : Marched) (few more : ℕ) (full : ℕ → Bool) (larger : few ≤ more) where
  -- the same march into a store with another slot limit
  abbrev limited : ℕ → Marched
  limited n = record m { slot_limit = n }

  pub two_calls : SlotLaw few 0 m.store (march_after (limited few) full (march_entry m)) (march_after (limited more) full (march_entry m))
  unfolding march_after after_start
  two_calls = go (march_entry m)
    where
      begun : (a : Answer Inscribed) → SlotLaw few 0 m.store (ran (after_start (limited few) full a)) (ran (after_start (limited more) full a))
      begun (Err r) = same_calls (ran (not_started m r)) (omega arith)
      begun (Ok c) =
          let most = march-fits m.section m.tol (slots_within more m.store) full (refining [] (c ∷ [])) 0 (omega arith) in
          two_reports few (slots_within few m.store) m.store 0 (started_run (limited few) full c) (started_run (limited more) full c)
          (two_marches m.section m.tol (slots_within few m.store) (slots_within more m.store) (omega (arith, larger)) full (refining [] (c ∷ [])) 0 (omega arith))
          (λ h. omega (arith, h, most, larger)) (λ h. omega (arith, h, most, larger))

      go : (a : Answer (Unit {0})) → SlotLaw few 0 m.store (march_after (limited few) full a) (march_after (limited more) full a)
      go (Err r) = same_calls (refused_on_entry r m.store) (omega arith)
      go (Ok passed) = begun (start_of m)
