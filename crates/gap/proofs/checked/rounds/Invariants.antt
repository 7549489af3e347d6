-- `rounds` keeps that what is left of the fit gives the whole. Assumes nothing.
use Prim.Native.Nat.{◌-◌}
use Rattle.runs.specs.Run.{under_limit}
use Rattle.inscribed.specs.Changes.{SameStore, in_use}
use Rattle.gap.specs.Rounds.{most_rounds, first_progress, rounds}
use Rattle.gap.proofs.RoundsLaws.{Left}
use Rattle.gap.proofs.checked.rounds.Given as goal

abbrev pub invariant-loop-turn : goal.invariant-loop-turn
invariant-loop-turn l = SameStore l.initial.circles l.circles × Left l.section.points.now l.tol l.circles.slots l.limit l.gap l.initial.circles.store.now (rounds l.section.points.now l.tol l.initial.circles.slots (under_limit l.limit) l.gap 20 (first_progress l.fn.first (in_use l.initial.circles))) l.circles.store.now (most_rounds - l.turn) l.reached.point l.reached.drift l.circles.count l.reached.units
