-- A refinement of an empty store: without a slot it ends with 15, with one it accepts the offered circle without a trial. Assumes nothing.
use mathlib.Core.Path.{◌≡◌, refl, sym, ◌∙◌}
use mathlib.Core.List.{List, [], ◌∷◌}
use Prim.Native.Nat.{ℕ, ◌*◌, ◌≤◌}
use native.Mathlib.Omega.{arith}
use borrow.Author.Tests.{le-leb, lt-leb}
use lib.ListN.{length}
use lib.Ieee.{Float}
use Rattle.std.specs.Prelude.{Err}
use Rattle.runs.specs.Run.{Move, ended, Final, under_limit}
use Rattle.runs.proofs.RunLaws.{whole_ends, whole_goes}
use Rattle.inscribed.specs.Store.{width, circles_of}
use Rattle.inscribed.specs.Code.{with_circle}
use Rattle.inscribed.specs.declared.Inscribed.{Inscribed}
use Rattle.inscribed.proofs.StoreLaws.{stored_push}
use Rattle.refine.specs.Machine.{State, refining, End, finished, refine_move, measure, refine_step, refine_run}
use Rattle.refine.specs.Report.{reported}
use Rattle.refine.proofs.MoveLaws.{refine_falls}
use Rattle.refine.proofs.RefineLaws.{Left, report, reported_as, loop_start, loop_finished}
use Rattle.errors.specs.declared.Refusal.TheVariants.{StoreFull}

module _ (ns : List Float) (tol : Float) (slots limit : ℕ) (old : List Float) (target : Final State End) where
  abbrev step : State → Move State End
  step = refine_step ns tol slots

  module _ (store : List Float) (b : Inscribed) (ws : List Inscribed) (u : ℕ) where
    empty_list : (cs : List Inscribed) → length cs ≡ 0 → cs ≡ []
    empty_list [] e = refl
    empty_list (c ∷ cs) e = absurd (omega arith)

    pub loop_no_slot : Left ns tol slots limit old target store 0 (b ∷ ws) u → slots ≡ 0 → report (ended (Err StoreFull)) 0 u store ≡ reported old target
    unfolding refine_step refine_move
    loop_no_slot l z =
        let e = empty_list l.cs l.long in
        reported_as ns tol slots limit old target store 0 [] (ended (Err StoreFull)) (refining [] (b ∷ ws)) u refl (rw e at l.holds) refl
        (sym (whole_ends step (measure slots) (refine_falls ns tol slots) (under_limit limit) (refining [] (b ∷ ws)) u (Err StoreFull) (rw (le-leb slots 0 (omega arith)))) ∙ (rw e at l.left))

    pub loop_first : Left ns tol slots limit old target store 0 (b ∷ ws) u → (slots ≡ 0 → ⊥) → Left ns tol slots limit old target (with_circle store 0 b) 1 ws u
    unfolding refine_step refine_move
    loop_first l z =
        let e = empty_list l.cs l.long in
        record {
          cs = b ∷ [];
          long = refl;
          holds = rw (rw e at l.holds) (stored_push [] old b);
          left = sym (whole_goes step (measure slots) (refine_falls ns tol slots) (under_limit limit) (refining [] (b ∷ ws)) u (refining (b ∷ []) ws) (rw (lt-leb slots 0 (omega arith)))) ∙ (rw e at l.left);
        }

-- an empty store
module _ (ns : List Float) (tol : Float) (slots limit : ℕ) (old : List Float) (b : Inscribed) (u : ℕ) (room : slots * width ≤ length old) where
  begun : Left ns tol slots limit old (refine_run ns tol slots (under_limit limit) (circles_of old 0) (b ∷ []) u) old 0 (b ∷ []) u
  begun = loop_start ns tol slots limit old 0 (b ∷ []) u (omega arith) room

  pub empty_refused : slots ≡ 0 → report (ended (Err StoreFull)) 0 u old ≡ reported old (refine_run ns tol slots (under_limit limit) (circles_of old 0) (b ∷ []) u)
  empty_refused z = loop_no_slot ns tol slots limit old _ old b [] u begun z

  pub empty_accepted : (slots ≡ 0 → ⊥) → report (ended finished) 1 u (with_circle old 0 b) ≡ reported old (refine_run ns tol slots (under_limit limit) (circles_of old 0) (b ∷ []) u)
  empty_accepted z = loop_finished ns tol slots limit old _ (with_circle old 0 b) 1 u (loop_first ns tol slots limit old _ old b [] u begun z)
