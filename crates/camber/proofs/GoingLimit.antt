-- The limit law of goings on. Assumes nothing.
use mathlib.Core.Path.{◌≡◌, refl, ap, ◌∙◌}
use mathlib.Core.Bool.{Bool, true, false, cond}
use mathlib.Core.List.{List}
use Prim.Native.Nat.{ℕ}
use native.Mathlib.Omega.{arith}
use lib.ListN.{length}
use Rattle.std.specs.Prelude.{Ok, Err}
use Rattle.errors.specs.Answer.{Answer}
use Rattle.errors.proofs.Laws.{not_14}
use Rattle.runs.specs.Run.{under_limit, never}
use Rattle.inscribed.specs.Store.{slots_within, circles_of}
use Rattle.inscribed.specs.declared.Inscribed.{Inscribed}
use Rattle.inscribed.proofs.StoreLaws.{length-circles}
use Rattle.refine.specs.Machine.{State, refining, advancing, circles_in, measure}
use Rattle.refine.specs.Report.{refused_on_entry}
use Rattle.refine.specs.Law.{LimitLaw, old_last}
use Rattle.refine.proofs.MachineLaws.{Sound}
use Rattle.refine.proofs.LawOfRuns.{still_law, run_law, short-settled, short_last}
use Rattle.refine.proofs.RefinementLaw.{within_slots}
use Rattle.camber.specs.March.{march_step}
use Rattle.camber.specs.Paused.{waiting_of, state_from}
use Rattle.camber.specs.declared.state.MarchState.{MarchState}
use Rattle.camber.specs.Going.{Going, going_entry, going_after, going_of, plain_going, going_accepted_after, going_accepted}
use Rattle.camber.proofs.HandedLaws.{passed_room}
use Rattle.camber.proofs.MarchMachine.{march_falls, march_grows, march_sound_goes, march_sound_pays}

pub same_circles : (cs : List Inscribed) (p : MarchState) → circles_in (state_from cs p) ≡ cs
same_circles cs p = go p.is_refining
  where
    go : (b : Bool) → circles_in (cond b (refining cs (waiting_of p)) (advancing cs p.fraction)) ≡ cs
    go true = refl
    go false = refl

-- as many circles are in use as were stated
pub circles_in_use : (g : Going) → length (circles_in (state_from (circles_of g.store g.count) g.state)) ≡ g.count
circles_in_use g = ap length (same_circles (circles_of g.store g.count) g.state) ∙ length-circles g.store 0 g.count

module _ (g : Going) where
  abbrev olds : List Inscribed
  olds = circles_of g.store g.count

  abbrev start : State
  start = state_from olds g.state

  start_sound : Sound g.section g.tol g.count start
  start_sound = record {
    held = omega (arith, circles_in_use g);
    settled = rw (same_circles olds g.state) (short-settled g.section g.tol (old_last g.store g.count) (short_last g.store g.count));
  }

  pub going_limit_law : (limit : ℕ) → LimitLaw g.section g.tol g.store g.count (λ l. (going_of g l).called) (plain_going g).called (λ l. going_accepted g (under_limit l)) limit
  unfolding going_after going_accepted_after
  going_limit_law limit = go (going_entry g) refl
    where
      go : (a : Answer (Unit {0})) → going_entry g ≡ a → LimitLaw g.section g.tol g.store g.count (λ l. (going_after g (under_limit l) a).called) (going_after g never a).called (λ l. going_accepted_after g (under_limit l) a) limit
      go (Err r) e = still_law g.section g.tol g.store g.count (refused_on_entry r g.store) tt refl refl refl (not_14 r) limit
      go (Ok passed) e =
          run_law (march_step g.section g.tol (slots_within g.slot_limit g.store)) (measure (slots_within g.slot_limit g.store)) (march_falls g.section g.tol (slots_within g.slot_limit g.store)) (march_grows g.section g.tol (slots_within g.slot_limit g.store)) g.section g.tol g.store g.count start
          (same_circles olds g.state) (within_slots g.slot_limit g.store g.count (passed_room g e)) start_sound
          (march_sound_goes g.section g.tol g.count (slots_within g.slot_limit g.store)) (march_sound_pays g.section g.tol g.count (slots_within g.slot_limit g.store)) limit
