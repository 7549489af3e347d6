-- What the code of a march holds between two steps. It is the code's own: `march_told` and `going_of` don't rest on it. Assumes nothing.
use Rattle.std.specs.Prelude.{◌≡◌, List, [], ◌∷◌, ℕ, if◌then◌else◌, nat_lt, length, Option, Some, None}
use Rattle.runs.specs.Run.{Ending, ended, spent, unfinished, under_limit}
use Rattle.inscribed.specs.declared.Inscribed.{Inscribed}
use Rattle.refine.specs.Machine.{State, refining, advancing, End}
use Rattle.refine.specs.Report.{ran}
use Rattle.errors.specs.Answer.{Answer}
use Rattle.camber.specs.March.{Marched, after_start, state_after}
use Rattle.camber.specs.Paused.{state_with}
use Rattle.camber.specs.Going.{GoingTold}
use Rattle.camber.specs.declared.state.MarchState.{MarchState}

-- refining with those that wait, the newest first, or advancing with fraction k due where none does
abbrev pub state_at : List Inscribed → List Inscribed → ℕ → State
state_at cs [] k = advancing cs k
state_at cs (b ∷ ws) k = refining cs (b ∷ ws)

-- the fraction that is due in a state that is handed in: none while refining
abbrev pub fraction_due : MarchState → ℕ
fraction_due p = if p.is_refining then 0 else p.fraction

-- no fraction is due where any waits
abbrev pub Idle : List Inscribed → ℕ → Type 0
Idle [] k = Unit {0}
Idle (b ∷ ws) k = k ≡ 0

-- the state of an ending, with fraction k due and the circles ws that wait, the newest last
unfoldable pub state_at_end : Ending End → ℕ → List Inscribed → Option MarchState
state_at_end spent k ws = Some (state_with (nat_lt 0 (length ws)) k ws)
state_at_end (ended e) k ws = None
state_at_end unfinished k ws = None

-- what a march tells from its start's circle on, without its edges
abbrev pub started_told : Marched → ℕ → Answer Inscribed → GoingTold
started_told m limit a = record { called = ran (after_start m (under_limit limit) a); state = state_after m (under_limit limit) a }
