-- What holds of a thinning beside its definition, as records with a field for each sentence, stated of what a call gives. Assumes nothing.
use Rattle.std.specs.Prelude.{◌≡◌, List, ◌++◌, ℕ, ◌+◌, ◌-◌, ◌*◌, ◌≤◌, ◌<◌, min, replicate, drop, Float, Option, Some, None, Ok}
use Rattle.errors.specs.Answer.{Answer}
use Rattle.points.specs.Numbers.{f0}
use Rattle.runs.specs.Run.{under_limit}
use Rattle.circles.specs.Trial.{trial}
use Rattle.inscribed.specs.Store.{width, circle_at, circles_of}
use Rattle.inscribed.specs.declared.Inscribed.{Inscribed}
use Rattle.refine.specs.Law.{Settled}
use Rattle.refine.specs.Refinement.{Offer, refine_entry, refine_of, accepted}
use Rattle.refine.specs.Report.{Called, called_number, store_of, units_of, count_of, Ends}
use Rattle.refine.specs.Thinning.{Unthinned}

-- a trial adds a circle
abbrev pub Adds : Answer (Option Inscribed) → Type 0
Adds r = (d : Inscribed) × (r ≡ Ok (Some d))

-- Which of `count` circles are dropped, where `kept` are left: "a circle between the first and last is dropped exactly if the trial of the
-- circle behind it against the last kept one adds nothing".
pub record DropLaw (section : List Float) (tol : Float) (old : List Float) (count : ℕ) (left : List Float) (kept : ℕ) : Type 0 where
  -- the slot in which kept circle i stood before
  pub place : ℕ → ℕ
  pub moved : (i : ℕ) → i < kept → circle_at left i ≡ circle_at old (place i)
  pub in_order : (i : ℕ) → i + 1 < kept → place i < place (i + 1)
  pub first : place 0 ≡ 0
  pub last : place (kept - 1) ≡ count - 1
  pub some_left : 0 < count → 0 < kept
  -- each circle that stood between two kept neighbours is dropped: the trial of the circle behind it against the kept one before it adds nothing
  pub dropped : (i k : ℕ) → i + 1 < kept → place i < k → k < place (i + 1)
      → trial section tol (circle_at left i) (circle_at old (k + 1)) ≡ Ok None
  -- each kept circle but the first and the last: the trial of the circle behind it against the kept one before it adds a circle
  pub stays : (i : ℕ) → i + 2 < kept → Adds (trial section tol (circle_at left i) (circle_at old (place (i + 1) + 1)))

-- What a thinning leaves, under a limit or without one, of a store with `count` circles in use.
pub record ThinLaw (section : List Float) (tol : Float) (old : List Float) (count : ℕ) (left : Called (Unit {0})) : Type 0 where
  -- "A spent limit, or a refusal inside a trial, leaves the whole store as it was", with the stated count; so does a refusal on entry
  pub untouched : (called_number left ≡ 0 → ⊥) → (store_of left ≡ old) × (count_of count left ≡ count)
  -- a finished thinning has taken as many units as there are circles between the first and the last
  pub trials : called_number left ≡ 0 → units_of left ≡ count - 2
  -- "First and last circle remain"
  pub first : 0 < count → circle_at (store_of left) 0 ≡ circle_at old 0
  pub last : 0 < count → circle_at (store_of left) (count_of count left - 1) ≡ circle_at old (count - 1)
  -- which circles are dropped
  pub drops : called_number left ≡ 0 → DropLaw section tol old count (store_of left) (count_of count left)
  pub fewer : count_of count left ≤ count
  -- "Kept circles move up without gaps, freed slots become zero": behind the kept circles each number of a freed slot is +0, and what stood behind the stated count stays
  pub freed : called_number left ≡ 0
      → drop (width * count_of count left) (store_of left) ≡ replicate (width * (count - count_of count left)) f0 ++ drop (width * count) old
  -- "If no neighbouring pair would be refined before, none would be after."
  pub settled : Settled section tol (circles_of old count)
      → Settled section tol (circles_of (store_of left) (count_of count left))

-- What a limit does to a thinning: `limited limit` is what a call gives under that limit, `plain` what the plain thinning without one gives.
pub record ThinLimitLaw (limited : ℕ → Called (Unit {0})) (plain : Called (Unit {0})) (limit : ℕ) : Type 0 where
  -- the plain thinning ends, and so does every thinning under a limit
  pub plain_ends : Ends plain
  pub ends : Ends (limited limit)
  -- "spent" (14) is the ending exactly when the plain thinning takes more units than the limit
  pub spent_if : limit < units_of plain → called_number (limited limit) ≡ 14
  pub if_spent : called_number (limited limit) ≡ 14 → limit < units_of plain
  -- the units are the smaller of the two
  pub units : units_of (limited limit) ≡ min limit (units_of plain)
  -- any other ending is the plain thinning's, and every larger limit gives the same ending, count, units and whole store
  pub otherwise : (called_number (limited limit) ≡ 14 → ⊥) → limited limit ≡ plain
  pub larger : (more : ℕ) → limit ≤ more → (called_number (limited limit) ≡ 14 → ⊥) → limited more ≡ limited limit

-- a circle offered to the store that a thinning left, with its section and tolerances, by an entry with a slot limit
abbrev pub offer_after : Unthinned → Called (Unit {0}) → ℕ → Inscribed → Offer
offer_after t left slot_limit circle =
    record { section = t.section; section_tol = t.section_tol; tol = t.tol; store = store_of left; count = count_of t.count left; slot_limit = slot_limit; circle = circle }

-- "a later refinement writes into" the freed slots: of one that is offered a circle after a thinning
pub record LaterRefinementLaw (o : Offer) (limit : ℕ) : Type 0 where
  -- it passes the entry tests
  pub enters : refine_entry o ≡ Ok tt
  -- the circles that it accepts stand behind the kept ones, from the first free slot on
  pub appended : circles_of (store_of (refine_of o limit)) (count_of o.count (refine_of o limit))
      ≡ circles_of o.store o.count ++ accepted o (under_limit limit)
