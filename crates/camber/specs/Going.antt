-- Going on: a march that was spent goes on from the state that it handed out, in the store that it left, within a second limit. The rule:
--   Going on while advancing begins with the stop test again, then takes the due fraction. Entry tests are 1, 2 of the points and the circles in use,
--   3, 23, 4, 27 and 6.
-- Assumes nothing.
use Rattle.std.specs.Prelude.{Bool, List, [], ℕ, drop, Float, Option, None, Ok, Err}
use Rattle.errors.specs.Answer.{Answer}
use Rattle.curve2.specs.Entry.{bad_general, finer_general, section_entry}
use Rattle.curve2.specs.declared.AlsoBad.{AlsoBad}
use Rattle.runs.specs.Run.{Final, under_limit, never}
use Rattle.inscribed.specs.Store.{slots_within, circles_of, bad_store_within, bad_count_within}
use Rattle.inscribed.specs.declared.Inscribed.{Inscribed}
use Rattle.refine.specs.Machine.{State, circles_in, End}
use Rattle.refine.specs.Report.{Called, refused_on_entry, ran, reported, listed_run}
use Rattle.camber.specs.March.{march_run}
use Rattle.camber.specs.Paused.{paused_by, state_from, bad_state}
use Rattle.camber.specs.declared.state.MarchState.{MarchState}
use Rattle.camber.specs.declared.going.GoneOn.{GoneOn}

-- what is handed in: a section with its tolerance, a general tolerance, a store with its stated count and the slot limit that the entry has, and a state, whoever made it
pub record Going : Type 0 where
  pub section : List Float
  pub section_tol : Float
  pub tol : Float
  pub store : List Float
  pub count : ℕ
  pub slot_limit : ℕ
  pub state : MarchState

-- the tests beside those of the section
abbrev pub beside_section : Going → AlsoBad
beside_section g = record {
  number = bad_store_within g.slot_limit g.store g.count;
  tolerance = bad_general g.tol;
  finer = finer_general g.section_tol g.tol;
  room = bad_count_within g.slot_limit g.store g.count;
  state = bad_state g.state g.count;
}

unfoldable pub going_entry : Going → Answer (Unit {0})
going_entry g = section_entry g.section g.section_tol (beside_section g)

-- The march from the state on. Where that is advancing, its first move is the stop test, and then the due fraction's step.
abbrev pub going_run : Going → (ℕ → Bool) → Final State End
going_run g full = march_run g.section g.tol (slots_within g.slot_limit g.store) full (state_from (circles_of g.store g.count) g.state) 0

-- ---- what a going on tells: a run, and its state where it is spent. The edges of the start came with the march.

pub record GoingTold : Type 0 where
  pub called : Called (Unit {0})
  pub state : Option MarchState

-- of a run that is at o, over a store as it was
abbrev pub told_of : List Float → Final State End → GoingTold
told_of old o = record { called = ran (reported old o); state = paused_by o.ending o.state }

unfoldable pub going_after : Going → (ℕ → Bool) → Answer (Unit {0}) → GoingTold
going_after g full (Err r) = record { called = refused_on_entry r g.store; state = None }
going_after g full (Ok passed) = told_of g.store (going_run g full)

-- under a limit, and the plain going on without one
abbrev pub going_of : Going → ℕ → GoingTold
going_of g limit = going_after g (under_limit limit) (going_entry g)

abbrev pub plain_going : Going → GoingTold
plain_going g = going_after g never (going_entry g)

-- the circles that it accepts, in its order
unfoldable pub going_accepted_after : Going → (ℕ → Bool) → Answer (Unit {0}) → List Inscribed
going_accepted_after g full (Err r) = []
going_accepted_after g full (Ok passed) = drop g.count (circles_in (going_run g full).state)

abbrev pub going_accepted : Going → (ℕ → Bool) → List Inscribed
going_accepted g full = going_accepted_after g full (going_entry g)

abbrev pub listed_going : Answer GoneOn → List Float → GoingTold
listed_going (Ok r) store = record { called = ran (listed_run r.run store); state = r.state }
listed_going (Err e) store = record { called = refused_on_entry e store; state = None }
