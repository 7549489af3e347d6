-- `decide` finds which circles are kept. The loop keeps that what is left of the run gives the whole. Assumes nothing.
use mathlib.Core.Path.{◌≡◌}
use Rattle.runs.specs.Run.{under_limit}
use Rattle.inscribed.specs.Store.{circles_of}
use Rattle.refine.specs.Thinning.{thin_run}
use Rattle.refine.proofs.ThinLoop.{Deciding}
use Rattle.refine.proofs.thinning.decide.Given as goal

abbrev pub invariant-loop-k : goal.invariant-loop-k
invariant-loop-k l = (l.u.limit ≡ l.fn.limit) × Deciding l.section.points.now l.tol l.fn.limit l.circles.store.now l.count (thin_run l.section.points.now l.tol (under_limit l.fn.limit) (circles_of l.circles.store.now l.count)) l.k l.u.taken l.kept.items l.last
