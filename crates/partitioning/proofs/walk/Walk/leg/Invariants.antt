-- `leg` takes turn after turn. The loop keeps that what is left, put behind what is held, is the whole, and that there is room for it. Assumes nothing.
use Rattle.std.proofs.Common.{◌≡◌, ◌-◌, length}
use Rattle.partitioning.specs.Code.{held, leg_onto}
use Rattle.partitioning.proofs.LegLaws.{LegLeft}
use Rattle.partitioning.proofs.walk.Walk.leg.Given as goal

abbrev pub invariant-loop-turn : goal.invariant-loop-turn
invariant-loop-turn l =
    let ns = l.self.section.points.now in
    (length l.points ≡ length l.initial.points) × LegLeft ns l.self.section.tol l.self.ends (l.left - l._turn) l.w l.kept l.points (leg_onto ns l.self.section.tol l.self.ends l.left l.initial.w.station (held l.initial.kept l.initial.points))
