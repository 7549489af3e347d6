-- `refine_all` keeps that the circles accepted so far and those still to be offered give the whole. Assumes nothing.
use Prim.Native.Nat.{◌-◌}
use Rattle.inscribed.specs.Changes.{SameStore, in_use}
use Rattle.inscribed.specs.Store.{circles_from, circles_of}
use Rattle.runs.specs.Run.{under_limit}
use Rattle.refine.specs.Report.{reported}
use Rattle.refine.specs.Offers.{offers_run}
use Rattle.refine.proofs.OffersLaws.{Offering}
use Rattle.refine.proofs.checked.refine_all.Given as goal

abbrev pub invariant-loop-k : goal.invariant-loop-k
invariant-loop-k l =
    SameStore l.initial.circles l.circles
    × Offering l.section.points.now l.tol l.circles.slots l.fn.units.limit l.initial.circles.store.now
    (reported l.initial.circles.store.now (offers_run l.section.points.now l.tol l.initial.circles.slots (under_limit l.fn.units.limit) (in_use l.initial.circles) (circles_of l.offered.store.now l.offered.count) l.fn.units.taken))
    l.circles.store.now l.circles.count l.taken (circles_from l.offered.store.now l.k (l.k-end - l.k))
