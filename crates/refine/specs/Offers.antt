-- `refine_all`: a list of circles offered in order, within one limit of units over all. Assumes nothing.
use Rattle.std.specs.Prelude.{Bool, false, ◌||◌, List, [], ◌∷◌, ℕ, drop, Float, Ok, Err}
use Rattle.errors.specs.Answer.{Answer}
use Rattle.curve2.specs.Entry.{bad_general, finer_general, section_entry}
use Rattle.runs.specs.Run.{Ending, ended, spent, unfinished, Final, final_of, under_limit, never}
use Rattle.inscribed.specs.Store.{slots_within, circles_of, bad_store, bad_store_count, bad_store_within, bad_count_within}
use Rattle.inscribed.specs.declared.Inscribed.{Inscribed}
use Rattle.refine.specs.Machine.{State, refining, circles_in, End, finished, refine_run}
use Rattle.refine.specs.Report.{Called, refused_on_entry, ran, reported}

-- what is handed in: as for one offer, with a list in place of the circle: a store of its own, of which so many circles are offered
pub record Offers : Type 0 where
  pub section : List Float
  pub section_tol : Float
  pub tol : Float
  pub store : List Float
  pub count : ℕ
  pub slot_limit : ℕ
  pub offered : List Float
  pub offered_count : ℕ

-- a refinement's tests; 2 and 4 test the list that is offered too, which holds up to 1,024 circles whatever the slot limit
unfoldable pub offers_entry : Offers → Answer (Unit {0})
offers_entry o =
    section_entry o.section o.section_tol
    (record {
      number = bad_store_within o.slot_limit o.store o.count || bad_store o.offered o.offered_count;
      tolerance = bad_general o.tol;
      finer = finer_general o.section_tol o.tol;
      room = bad_count_within o.slot_limit o.store o.count || bad_store_count o.offered o.offered_count;
      state = false;
    })

-- after the refinement of one circle: the next one where it is finished, else this is how all ends
abbrev pub after_one : (List Inscribed → ℕ → Final State End) → Final State End → Ending End → Final State End
after_one go o (ended (Ok done)) = go (circles_in o.state) o.units
after_one go o (ended (Err r)) = o
after_one go o spent = o
after_one go o unfinished = o

-- Each circle in order: it waits alone behind the circles accepted so far, and is refined until none waits.
unfoldable pub offers_run : List Float → Float → ℕ → (ℕ → Bool) → List Inscribed → List Inscribed → ℕ → Final State End
offers_run ns tol slots full cs [] u = final_of (ended finished) (refining cs []) u
offers_run ns tol slots full cs (b ∷ bs) u =
    let go : List Inscribed → ℕ → Final State End = λ ds v. offers_run ns tol slots full ds bs v in
    let o = refine_run ns tol slots full cs (b ∷ []) u in
    after_one go o o.ending

abbrev pub all_offered : Offers → (ℕ → Bool) → Final State End
all_offered o full = offers_run o.section o.tol (slots_within o.slot_limit o.store) full (circles_of o.store o.count) (circles_of o.offered o.offered_count) 0

unfoldable pub after_offers_entry : Offers → (ℕ → Bool) → Answer (Unit {0}) → Called (Unit {0})
after_offers_entry o full (Err r) = refused_on_entry r o.store
after_offers_entry o full (Ok passed) = ran (reported o.store (all_offered o full))

unfoldable pub refinements : Offers → (ℕ → Bool) → Called (Unit {0})
unfolding after_offers_entry
refinements o full = after_offers_entry o full (offers_entry o)

-- under a limit, and without one
abbrev pub refine_all_of : Offers → ℕ → Called (Unit {0})
refine_all_of o limit = refinements o (under_limit limit)

abbrev pub plain_refine_all : Offers → Called (Unit {0})
plain_refine_all o = refinements o never

-- the circles that all these accept, in their order
unfoldable pub accepted_of_all : Offers → (ℕ → Bool) → Answer (Unit {0}) → List Inscribed
accepted_of_all o full (Err r) = []
accepted_of_all o full (Ok passed) = drop o.count (circles_in (all_offered o full).state)

abbrev pub all_accepted : Offers → (ℕ → Bool) → List Inscribed
all_accepted o full = accepted_of_all o full (offers_entry o)
