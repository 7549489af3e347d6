-- A march that is paused: what it hands out where it is spent, and what goes on from there. The rule:
--   A spent march, or a spent going on, also returns a state: whether it was refining or advancing, which of the four fractions is due (0 to 3; 0 when
--   refining, and not read then), and the waiting circles, the tried one among them. A state with more than 64 waiting circles, a waiting circle that
--   fails the test of 2, refining with none waiting, advancing with some waiting, either with no circle in use, or, when advancing, a fraction number
--   above 3 is 27, tested after 4 and before 6. Other endings return no state.
-- Assumes nothing.
use Rattle.std.specs.Prelude.{Bool, true, false, ◌||◌, if◌then◌else◌, ◌==◌, nat_lt, List, [], ℕ, ◌*◌, length, reverse, replicate, Float, Option, Some, None}
use Rattle.points.specs.Numbers.{f0}
use Rattle.runs.specs.Run.{Ending, ended, spent, unfinished}
use Rattle.inscribed.specs.Store.{width, circles_of, stored, bad_store_within}
use Rattle.inscribed.specs.declared.Inscribed.{Inscribed}
use Rattle.refine.specs.Machine.{most_waiting, State, refining, advancing, stopped, End}
use Rattle.camber.specs.declared.state.MarchState.{MarchState}

-- ---- handed out

-- the waiting circles in a store of 64 slots, the newest last; the slots behind them are zero
abbrev pub waiting_numbers : List Inscribed → List Float
waiting_numbers ws = stored ws (replicate (most_waiting * width) f0)

abbrev pub state_with : Bool → ℕ → List Inscribed → MarchState
state_with b k ws = record { is_refining = b; fraction = k; count = length ws; waiting = waiting_numbers ws }

-- all that the state of a run holds but the circles in use, which stand in the store; a run that is stopped is never spent
abbrev pub handed_out : State → MarchState
handed_out (refining cs ws) = state_with true 0 (reverse ws)
handed_out (advancing cs k) = state_with false k []
handed_out (stopped cs r) = state_with true 0 []

-- "A spent march, or a spent going on, also returns a state"; other endings return none
unfoldable pub paused_by : Ending End → State → Option MarchState
paused_by spent s = Some (handed_out s)
paused_by (ended e) s = None
paused_by unfinished s = None

-- ---- handed in

-- the waiting circles, the newest first
abbrev pub waiting_of : MarchState → List Inscribed
waiting_of s = reverse (circles_of s.waiting s.count)

-- the state of the run that goes on, with the circles in use
abbrev pub state_from : List Inscribed → MarchState → State
state_from cs s = if s.is_refining then refining cs (waiting_of s) else advancing cs s.fraction

-- 27, with n circles in use
unfoldable pub bad_state : MarchState → ℕ → Bool
bad_state s n =
    nat_lt most_waiting s.count || (bad_store_within most_waiting s.waiting s.count || (n == 0
    || (if s.is_refining then s.count == 0 else (nat_lt 0 s.count || nat_lt 3 s.fraction))))
