-- What the code of a run leaves in what it was lent. It is the code's own: `refine_of` doesn't rest on it. Assumes nothing.
use Rattle.std.specs.Prelude.{◌≡◌, Bool, true, false, List, [], ◌∷◌, ℕ, suc, length, Float}
use Rattle.runs.specs.Run.{Final, ended}
use Rattle.inscribed.specs.Store.{circle_at}
use Rattle.inscribed.specs.Changes.{SameStore}
use Rattle.inscribed.specs.declared.Inscribed.{Inscribed}
use Rattle.inscribed.specs.declared.checked.CirclesStore.{CirclesStore}
use Rattle.refine.specs.Machine.{State, refining, advancing, stopped, End, finished}
use Rattle.refine.specs.Report.{reported, listed_end, listed_run}
use Rattle.refine.specs.Thinning.{ThinState, kept_in}
use Rattle.refine.specs.declared.Run.{Run}

-- of a run that is at o
abbrev pub Reports : Run (Unit {0}) → CirclesStore → CirclesStore → Final State End → Type 0
Reports r old new o = (listed_run r new.store.now ≡ reported old.store.now o) × SameStore old new × (new.count ≡ r.count)

-- the waiting circles, the newest first, and the number of the fraction that is due
abbrev pub waiting_in : State → List Inscribed
waiting_in (refining cs ws) = ws
waiting_in (advancing cs k) = []
waiting_in (stopped cs r) = []

abbrev pub due_in : State → ℕ
due_in (refining cs ws) = 0
due_in (advancing cs k) = k
due_in (stopped cs r) = 0

-- ---- thinning

-- the circles in the slots from number k on whose flags stand
abbrev pub kept_from : List Float → ℕ → List Bool → List Inscribed
kept_from ns k [] = []
kept_from ns k (true ∷ fs) = circle_at ns k ∷ kept_from ns (suc k) fs
kept_from ns k (false ∷ fs) = kept_from ns (suc k) fs

-- which of n circles are kept is known where the thinning is finished; else how it ended
abbrev pub Decides : List Float → ℕ → List Bool → Run (Unit {0}) → Final ThinState End → Type 0
Decides ns n flags r o = (listed_end r.end ≡ o.ending) × (r.units ≡ o.units) × (r.count ≡ n) × (o.ending ≡ ended finished → (length flags ≡ n) × (kept_from ns 0 flags ≡ kept_in o.state))
