-- `go_on_from` keeps that the march from the circles accepted so far, those that wait and the fraction that is due gives the whole. Assumes nothing.
use Prim.Native.Nat.{◌+◌, ◌-◌, ◌*◌, ◌≤◌}
use mathlib.Core.List.{reverse}
use lib.ListN.{length}
use Rattle.inscribed.specs.Changes.{SameStore, in_use}
use Rattle.camber.proofs.MarchFrom.{Top}
use Rattle.camber.specs.March.{march_run}
use Rattle.camber.specs.Code.{state_at}
use Rattle.refine.specs.Machine.{most_waiting}
use Rattle.runs.specs.Run.{under_limit}
use Rattle.camber.proofs.march.go_on_from.Given as goal

abbrev pub invariant-loop-ran : goal.invariant-loop-ran
invariant-loop-ran l = SameStore l.fn.circles l.circles × (length l.waiting.items ≤ most_waiting) × Top l.section.points.now l.tol l.circles.slots l.limit l.fn.circles.store.now (march_run l.section.points.now l.tol l.fn.circles.slots (under_limit l.limit) (state_at (in_use l.fn.circles) (reverse l.fn.waiting.items) l.fn.due) l.fn.units.taken) l.circles.store.now l.circles.count (reverse l.waiting.items) l.due l.taken

abbrev pub decreases-loop-ran : goal.decreases-loop-ran
decreases-loop-ran l = (l.circles.slots - l.circles.count) * 2 + (1 - length l.waiting.items)
