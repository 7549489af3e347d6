-- What a call of a run gives: refused on entry, the number alone; of a run that began, the ending, the count of circles, the units and the store. Assumes nothing.
use Rattle.std.specs.Prelude.{◌≡◌, List, ℕ, length, Float, Err, Ok}
use Rattle.errors.specs.Answer.{Answer, number_of, number}
use Rattle.errors.specs.declared.Refusal.{Refusal}
use Rattle.runs.specs.Run.{Ending, ended, spent, unfinished, Final}
use Rattle.inscribed.specs.Store.{stored}
use Rattle.refine.specs.Machine.{State, circles_in, End}
use Rattle.refine.specs.declared.RunEnd.{RunEnd}
use Rattle.refine.specs.declared.Run.{Run}

-- of a run whose result is an A: "result, with count of circles and units"; "A run refused later .. returns count and units with the number"
pub record Report (A : Type 0) : Type 0 where
  pub ending : Ending (Answer A)
  pub count : ℕ
  pub units : ℕ
  pub store : List Float

-- "Refusals on entry .. change no memory": the number, and the store as it was
pub data Called (A : Type 0) : Type 0 where
  refused_on_entry : Refusal → List Float → Called A
  ran : Report A → Called A

-- ---- the numbers

-- 0 for a result, 14 for "spent: one more unit is wanted than the limit". No run is unfinished: `ends` of the limit law.
abbrev pub ending_number : {A : Type 0} → Ending (Answer A) → ℕ
ending_number (ended a) = number a
ending_number spent = 14
ending_number unfinished = 14

abbrev pub called_number : {A : Type 0} → Called A → ℕ
called_number (refused_on_entry r store) = number_of r
called_number (ran r) = ending_number r.ending

-- ---- what else is told of a call

abbrev pub store_of : {A : Type 0} → Called A → List Float
store_of (refused_on_entry r store) = store
store_of (ran r) = r.store

-- "a refusal there ends it with none accepted and 0 units"
abbrev pub units_of : {A : Type 0} → Called A → ℕ
units_of (refused_on_entry r store) = 0
units_of (ran r) = r.units

-- the circles in use afterwards, of a stated count before
abbrev pub count_of : {A : Type 0} → ℕ → Called A → ℕ
count_of count (refused_on_entry r store) = count
count_of count (ran r) = r.count

-- the run came to an ending
abbrev pub Ends : {A : Type 0} → Called A → Type 0
Ends (refused_on_entry r store) = Unit {0}
Ends (ran r) = r.ending ≡ unfinished → ⊥

-- ---- the report of a run that ends finished or refused

abbrev pub RunReport : Type 0
RunReport = Report (Unit {0})

-- the run's circles stand from the store's start on, "later slots untouched"
unfoldable pub reported : List Float → Final State End → RunReport
reported old o = record { ending = o.ending; count = length (circles_in o.state); units = o.units; store = stored (circles_in o.state) old }

-- ---- what the functions return

abbrev pub listed_end : {A : Type 0} → RunEnd A → Ending (Answer A)
listed_end (RunEnd.Finished a) = ended (Ok a)
listed_end RunEnd.Spent = spent
listed_end (RunEnd.Refused r) = ended (Err r)

abbrev pub listed_run : {A : Type 0} → Run A → List Float → Report A
listed_run r store = record { ending = listed_end r.end; count = r.count; units = r.units; store = store }

abbrev pub listed_called : {A : Type 0} → Answer (Run A) → List Float → Called A
listed_called (Ok r) store = ran (listed_run r store)
listed_called (Err r) store = refused_on_entry r store
