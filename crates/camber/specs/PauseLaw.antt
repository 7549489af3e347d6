-- The law of a pause: "Going on with a second limit, by the entry that the march had, with state, section, tolerance and store untouched, leaves the store and ending of a
-- single march whose limit is the sum; units add up .. Limit 0, on a state that a spent march gave and with the same entry and the rest untouched, returns an equal state." Assumes nothing.
use Rattle.std.specs.Prelude.{◌≡◌, ℕ, ◌+◌, Some, None, false}
use Rattle.runs.specs.Run.{spent}
use Rattle.refine.specs.Report.{RunReport, Called, refused_on_entry, ran, called_number, store_of, count_of}
use Rattle.camber.specs.March.{Marched, march_of, march_state}
use Rattle.camber.specs.Paused.{bad_state}
use Rattle.camber.specs.Going.{Going, GoingTold, going_of}
use Rattle.camber.specs.declared.state.MarchState.{MarchState}

-- what a march tells, without the edges of its start
abbrev pub told_by_march : Marched → ℕ → GoingTold
told_by_march m limit = record { called = march_of m limit; state = march_state m limit }

-- what a march left, handed in with all else untouched, by the entry that it had
abbrev pub left_by_march : Marched → ℕ → MarchState → Going
left_by_march m first p = record { section = m.section; section_tol = m.section_tol; tol = m.tol; store = store_of (march_of m first); count = count_of 0 (march_of m first); slot_limit = m.slot_limit; state = p }

-- what a going on left
abbrev pub left_by_going : Going → ℕ → MarchState → Going
left_by_going g first p = record g { store = store_of (going_of g first).called; count = count_of g.count (going_of g first).called; state = p }

-- the same with so many units taken before
abbrev pub report_after : ℕ → RunReport → RunReport
report_after a r = record r { units = a + r.units }

abbrev pub called_after : ℕ → Called (Unit {0}) → Called (Unit {0})
called_after a (refused_on_entry r store) = refused_on_entry r store
called_after a (ran r) = ran (report_after a r)

abbrev pub told_after : ℕ → GoingTold → GoingTold
told_after a t = record { called = called_after a t.called; state = t.state }

-- of a run that tells `at limit` at each limit, that handed p out at the first, and left what `left` says
pub record PauseLaw (at : ℕ → GoingTold) (first : ℕ) (p : MarchState) (left : Going) : Type 0 where
  -- ending, count, units, whole store, and the state where it is spent again
  pub sum : (second : ℕ) → at (first + second) ≡ told_after first (going_of left second)
  -- an equal state, no unit taken, and all as it was
  pub still : going_of left 0 ≡ record { called = ran (record { ending = spent; count = left.count; units = 0; store = left.store }); state = Some p }

-- of what a run tells, whose store had so many circles in use
pub record StateLaw (count : ℕ) (t : GoingTold) : Type 0 where
  -- a state comes with every 14, and with 14 alone
  pub handed : called_number t.called ≡ 14 → (p : MarchState) × (t.state ≡ Some p)
  pub kept : (called_number t.called ≡ 14 → ⊥) → t.state ≡ None
  -- a state that is handed out is none of 27, with the count that comes with it
  pub passes : (p : MarchState) → t.state ≡ Some p → bad_state p (count_of count t.called) ≡ false
