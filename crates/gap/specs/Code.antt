-- What the code of one round, and of a fit, returns and leaves. It is the code's own: `rounds` doesn't rest on it. Assumes nothing.
use Rattle.std.specs.Prelude.{◌≡◌, List, ℕ, Float}
use Rattle.inscribed.specs.Store.{circles_of, stored}
use Rattle.inscribed.specs.Changes.{SameStore}
use Rattle.inscribed.specs.declared.Inscribed.{Inscribed}
use Rattle.inscribed.specs.declared.checked.CirclesStore.{CirclesStore}
use Rattle.points.specs.declared.Point2.{Point2}
use Rattle.refine.specs.declared.Run.{Run}
use Rattle.refine.specs.Report.{listed_end}
use Rattle.gap.specs.declared.round.Reached.{Reached}
use Rattle.std.specs.declared.ops.ControlFlow.{ControlFlow}
use Rattle.std.specs.declared.ops.ControlFlow.TheVariants.{Continue, Break}
use Rattle.gap.specs.Rounds.{Fit, fit, Progress, progress, Round, stops, goes}

-- a fit whose circles stand in a store
abbrev pub fit_in : List Float → Run Point2 → Fit
fit_in store f = fit (listed_end f.end) (circles_of store f.count) f.units

-- where the next round starts, with n circles in the store
abbrev pub progress_in : List Float → ℕ → Reached → Progress
progress_in store n r = progress r.point r.drift (circles_of store n) r.units

abbrev pub round_in : List Float → ℕ → ControlFlow (Run Point2) Reached → Round
round_in store n (Break f) = stops (fit_in store f)
round_in store n (Continue r) = goes (progress_in store n r)

-- the count of circles that a round tells, of n in the store
abbrev pub round_count : ℕ → ControlFlow (Run Point2) Reached → ℕ
round_count n (Break f) = f.count
round_count n (Continue r) = n

-- the circles after a round
abbrev pub round_circles : Round → List Inscribed
round_circles (stops f) = f.circles
round_circles (goes p) = p.circles

abbrev pub round_units : Round → ℕ
round_units (stops f) = f.units
round_units (goes p) = p.units

-- What r returns and leaves in the store it was lent: a round, with the circles from the store's start on and "later slots untouched".
abbrev pub Rounded : Round → CirclesStore → CirclesStore → ControlFlow (Run Point2) Reached → Type 0
Rounded is old new r = (round_in new.store.now new.count r ≡ is) × (new.store.now ≡ stored (round_circles is) old.store.now) × SameStore old new × (round_count new.count r ≡ new.count)

-- and a fit as a whole
abbrev pub Fits : Fit → CirclesStore → CirclesStore → Run Point2 → Type 0
Fits is old new r = (fit_in new.store.now r ≡ is) × (new.store.now ≡ stored is.circles old.store.now) × SameStore old new × (new.count ≡ r.count)
