-- "Take the circles left by one march, with the same section and tolerance, and offer them in order to an empty list with as many slots and a limit that is large enough." Assumes nothing.
use Rattle.std.specs.Prelude.{◌≡◌, List, ◌++◌, ℕ, ◌-◌, ◌*◌, ◌≤◌, min, take, drop, Float}
use Rattle.runs.specs.Run.{ended}
use Rattle.inscribed.specs.Store.{width, circles_of}
use Rattle.inscribed.specs.declared.Inscribed.{Inscribed}
use Rattle.refine.specs.Machine.{finished}
use Rattle.refine.specs.Report.{RunReport, ran, store_of, count_of}
use Rattle.refine.specs.Offers.{refine_all_of}
use Rattle.refine.specs.Again.{in_order, called_in_order}
use Rattle.camber.specs.March.{Marched, march_of}

-- how many circles a march left: those that it accepted, whichever way it ended; and these circles
abbrev pub left_count : Marched → ℕ → ℕ
left_count m limit = count_of 0 (march_of m limit)

abbrev pub left_circles : Marched → ℕ → List Inscribed
left_circles m limit = circles_of (store_of (march_of m limit)) (left_count m limit)

-- the store of another list with the same circles, bit for bit, and every number behind them as it was
abbrev pub same_store : Marched → ℕ → List Float → List Float
same_store m limit other = take (width * left_count m limit) (store_of (march_of m limit)) ++ drop (width * left_count m limit) other

-- of a march within a first limit, and the store of another list, which is empty: "The result is the same list, bit for bit, with one unit fewer than there are circles, and none for an empty list."
pub record AgainLaw (m : Marched) (first : ℕ) (other : List Float) : Type 0 where
  -- offered one by one, each by a refinement of its own; one unit for each is enough, and none where there is one circle or none
  pub one_by_one : (limit : ℕ) → min (left_count m first - 1) 1 ≤ limit → (circle : Inscribed)
      → called_in_order (record { section = m.section; section_tol = m.section_tol; tol = m.tol; store = other; count = 0; slot_limit = m.slot_limit; circle = circle }) limit (left_circles m first) 0
      ≡ in_order 0 (left_count m first) (left_count m first - 1) (same_store m first other)
  -- offered by one call, of a march that wasn't refused on entry; one unit fewer than there are circles is enough
  pub all_at_once : (limit : ℕ) → left_count m first - 1 ≤ limit → (r : RunReport) → march_of m first ≡ ran r
      → refine_all_of (record { section = m.section; section_tol = m.section_tol; tol = m.tol; store = other; count = 0; slot_limit = m.slot_limit; offered = store_of (march_of m first); offered_count = left_count m first }) limit
      ≡ ran (record { ending = ended finished; count = left_count m first; units = left_count m first - 1; store = same_store m first other })
