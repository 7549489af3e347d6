-- `refine_waiting` is the refinement run from the circles in its store on, where there is one. Assumes nothing.
use mathlib.Core.Path.{◌≡◌}
use Prim.Native.Nat.{◌+◌, ◌*◌, ◌≤◌, ◌<◌, ◌-◌}
use mathlib.Core.List.{reverse}
use lib.ListN.{length}
use Rattle.refine.proofs.RefineLaws.{Left}
use Rattle.refine.specs.Machine.{most_waiting, refine_run}
use Rattle.inscribed.specs.Changes.{SameStore, in_use}
use Rattle.runs.specs.Run.{under_limit}
use Rattle.refine.proofs.checked.refine_waiting.Given as goal

abbrev pub invariant-loop-top : goal.invariant-loop-top
invariant-loop-top l = (length l.waiting.items ≤ most_waiting) × (l.u.limit ≡ l.fn.units.limit) × (0 < l.circles.count) × SameStore l.initial.circles l.circles × Left l.section.points.now l.tol l.circles.slots l.fn.units.limit l.initial.circles.store.now (refine_run l.section.points.now l.tol l.initial.circles.slots (under_limit l.fn.units.limit) (in_use l.initial.circles) (reverse l.fn.waiting.items) l.fn.units.taken) l.circles.store.now l.circles.count (reverse l.waiting.items) l.u.taken

abbrev pub decreases-loop-top : goal.decreases-loop-top
decreases-loop-top l = (l.circles.slots - l.circles.count) * (most_waiting + 2) + (most_waiting - length l.waiting.items)
