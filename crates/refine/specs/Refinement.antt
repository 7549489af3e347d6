-- `refine_and_push`: "demand 3's plain run". Assumes nothing.
use Rattle.std.specs.Prelude.{Bool, false, ◌||◌, List, [], ◌∷◌, ℕ, drop, Float, Ok, Err}
use Rattle.errors.specs.Answer.{Answer}
use Rattle.curve2.specs.Entry.{bad_general, finer_general, section_entry}
use Rattle.runs.specs.Run.{Final, under_limit, never}
use Rattle.inscribed.specs.Store.{slots_within, circles_of, bad_circle, bad_store_within, bad_count_within}
use Rattle.inscribed.specs.declared.Inscribed.{Inscribed}
use Rattle.refine.specs.Machine.{State, circles_in, End, refine_run}
use Rattle.refine.specs.Report.{Called, refused_on_entry, ran, reported}

-- what is handed in: a section with its tolerance, a general tolerance, a store with its stated count and the slot limit that the entry has, and the offered circle
pub record Offer : Type 0 where
  pub section : List Float
  pub section_tol : Float
  pub tol : Float
  pub store : List Float
  pub count : ℕ
  pub slot_limit : ℕ
  pub circle : Inscribed

unfoldable pub refine_entry : Offer → Answer (Unit {0})
refine_entry o =
    section_entry o.section o.section_tol
    (record { number = bad_store_within o.slot_limit o.store o.count || bad_circle o.circle; tolerance = bad_general o.tol; finer = finer_general o.section_tol o.tol; room = bad_count_within o.slot_limit o.store o.count; state = false })

-- "The offered circle waits alone."
abbrev pub offered_run : Offer → (ℕ → Bool) → Final State End
offered_run o full = refine_run o.section o.tol (slots_within o.slot_limit o.store) full (circles_of o.store o.count) (o.circle ∷ []) 0

-- "it makes the entry tests first, and a refusal there ends it with none accepted and 0 units"
unfoldable pub after_entry : Offer → (ℕ → Bool) → Answer (Unit {0}) → Called (Unit {0})
after_entry o full (Err r) = refused_on_entry r o.store
after_entry o full (Ok passed) = ran (reported o.store (offered_run o full))

unfoldable pub refinement : Offer → (ℕ → Bool) → Called (Unit {0})
unfolding after_entry
refinement o full = after_entry o full (refine_entry o)

-- under a limit, and the plain run without one
abbrev pub refine_of : Offer → ℕ → Called (Unit {0})
refine_of o limit = refinement o (under_limit limit)

abbrev pub plain_refinement : Offer → Called (Unit {0})
plain_refinement o = refinement o never

-- the circles that it accepts, in its order
unfoldable pub accepted_after : Offer → (ℕ → Bool) → Answer (Unit {0}) → List Inscribed
accepted_after o full (Err r) = []
accepted_after o full (Ok passed) = drop o.count (circles_in (offered_run o full).state)

abbrev pub accepted : Offer → (ℕ → Bool) → List Inscribed
accepted o full = accepted_after o full (refine_entry o)
