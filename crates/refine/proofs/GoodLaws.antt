-- What a run holds can be handed in again: each circle, in the list or waiting, passes the test of 2; no more than 64 wait, and the fraction that is due is one of four. Assumes nothing.
use mathlib.Core.Path.{◌≡◌, refl}
use mathlib.Core.Bool.{Bool, true, false, cond}
use mathlib.Core.List.{List, [], ◌∷◌, ◌++◌}
use Rattle.std.specs.Prelude.{Option, Some, None, Ok, Err}
use Prim.Native.Nat.{ℕ, suc, ◌≤◌, ◌<◌}
use native.Mathlib.Omega.{arith}
use borrow.Author.Tests.{leb-false}
use lib.Dec.{leb}
use lib.ListN.{length}
use lib.Ieee.{Float}
use Rattle.errors.specs.Answer.{Answer}
use Rattle.errors.specs.Lists.{last_of}
use Rattle.curve2.specs.Entry.{IsSection}
use Rattle.curve2.proofs.Laws.{or_left, or_right}
use Rattle.runs.specs.Run.{goes, pays}
use Rattle.circles.specs.Trial.{trial}
use Rattle.circles.proofs.TrialLaws.{trial_passes}
use Rattle.inscribed.specs.Store.{bad_circle, any_bad}
use Rattle.inscribed.specs.declared.Inscribed.{Inscribed}
use Rattle.refine.specs.Machine.{most_waiting, State, refining, circles_in, with_room, after_room, after_trial, refine_move}
use Rattle.refine.specs.Code.{waiting_in, due_in}
use Rattle.refine.proofs.MoveLaws.{move_goes, move_pays}
use Rattle.errors.specs.declared.Refusal.TheVariants.{StackFull, StoreFull}

pub record Good (s : State) : Type 0 where
  pub circles : any_bad (circles_in s) ≡ false
  pub waiting : any_bad (waiting_in s) ≡ false
  pub few : length (waiting_in s) ≤ most_waiting
  pub due : due_in s ≤ 3

pub none_more : (cs : List Inscribed) (b : Inscribed) → any_bad cs ≡ false → bad_circle b ≡ false → any_bad (cs ++ (b ∷ [])) ≡ false
unfolding any_bad
none_more [] b h e = rw e refl
none_more (c ∷ cs) b h e = rw (or_left (bad_circle c) (any_bad cs) h, none_more cs b (or_right (bad_circle c) (any_bad cs) h) e) refl

module _ (ns : List Float) (section_tol : Float) (sec : IsSection ns section_tol) (tol : Float) (slots : ℕ) where
  after_good : (c : Inscribed) (cs : List Inscribed) (b : Inscribed) (ws : List Inscribed) (r : Answer (Option Inscribed)) → ((d : Inscribed) → r ≡ Ok (Some d) → bad_circle d ≡ false)
      → Good (refining (c ∷ cs) (b ∷ ws)) → Good (after_trial slots (c ∷ cs) b ws r)
  unfolding after_trial with_room any_bad
  after_good c cs b ws (Err n) e h = record { circles = h.circles; waiting = refl; few = omega arith; due = omega arith }
  after_good c cs b ws (Ok (Some d)) e h = go (leb most_waiting (suc (length ws))) (leb-false most_waiting (suc (length ws)))
    where
      go : (x : Bool) → (x ≡ false → suc (length ws) < most_waiting) → Good (after_room (c ∷ cs) b ws (cond x (Err StackFull) (Ok (Some d))))
      go true k = record { circles = h.circles; waiting = refl; few = omega arith; due = omega arith }
      go false k = record { circles = h.circles; waiting = rw (e d refl, h.waiting) refl; few = omega (arith, k refl); due = omega arith }
  after_good c cs b ws (Ok None) e h = go (leb slots (suc (length cs)))
    where
      go : (x : Bool) → Good (after_room (c ∷ cs) b ws (cond x (Err StoreFull) (Ok None)))
      go true = record { circles = h.circles; waiting = refl; few = omega arith; due = omega arith }
      go false = record {
        circles = none_more (c ∷ cs) b h.circles (or_left (bad_circle b) (any_bad ws) h.waiting);
        waiting = or_right (bad_circle b) (any_bad ws) h.waiting;
        few = omega (arith, h.few);
        due = omega arith;
      }

  pub move_good : (cs : List Inscribed) (b : Inscribed) (ws : List Inscribed) (t : State) → Good (refining cs (b ∷ ws))
      → (refine_move ns tol slots cs b ws ≡ goes t → Good t) × (refine_move ns tol slots cs b ws ≡ pays t → Good t)
  unfolding any_bad
  move_good cs b ws t h = (
    λ p. let m = move_goes ns tol slots b ws cs t p in rw m.2 (one (or_left (bad_circle b) (any_bad ws) h.waiting)),
    λ p. let m = move_pays ns tol slots b ws cs t p in tried m.0 m.1 m.2 m.3,
  )
    where
      one : bad_circle b ≡ false → Good (refining (b ∷ []) ws)
      one e = record { circles = rw e refl; waiting = or_right (bad_circle b) (any_bad ws) h.waiting; few = omega (arith, h.few); due = omega arith }

      tried : (c : Inscribed) (ds : List Inscribed) → cs ≡ c ∷ ds → t ≡ after_trial slots cs b ws (trial ns tol (last_of c ds) b) → Good t
      tried c ds e f = rw (f, e) (after_good c ds b ws _ (λ d k. trial_passes ns section_tol sec tol (last_of c ds) b d k) (rw e at h))
