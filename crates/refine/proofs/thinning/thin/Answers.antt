-- `thin` finds which circles are kept, and moves them up where that is finished. Assumes nothing.
use mathlib.Core.Path.{refl, ap}
use native.Mathlib.Omega.{arith}
use Rattle.inscribed.specs.Changes.{in_use}
use Rattle.runs.specs.Run.{under_limit}
use Rattle.refine.specs.Report.{listed_end}
use Rattle.refine.specs.Thinning.{thin_run}
use Rattle.refine.proofs.ThinLoop.{few_thinned, other_thinned, finished_thinned, other_unfinished}
use Rattle.refine.proofs.thinning.thin.Goals as goal

pub returns-then-circles-lt2 : goal.returns-then-circles-lt2
returns-then-circles-lt2 c = (rw c.finished.ensures (few_thinned _ _ _ _ _ c.if-circles-lt2.true (omega (arith, c.args.circles.now.in_store))), (refl, refl))

pub returns-in_default : goal.returns-in_default
returns-in_default c = (
  other_thinned _ _ _ _ (thin_run c.args.section.now.points.now c.args.tol (under_limit c.args.limit) (in_use c.args.circles.now)) (rw (c.in_use.ensures.0, c.in_use.ensures.1) at c.decide-run.ensures) (other_unfinished c.decide-run.result.end c.in_default.not-Finished),
  (refl, refl),
)

pub returns : goal.returns
returns c = let run = thin_run c.args.section.now.points.now c.args.tol (under_limit c.args.limit) (in_use c.args.circles.now) in
    let moved = rw c.as_slice.ensures.value at c.move_up.ensures in (
      rw c.finished-2.ensures (finished_thinned _ _ _ c.decide-run.result run (rw (c.in_use.ensures.0, c.in_use.ensures.1) at c.decide-run.ensures) _ _ (ap listed_end c.in-Finished.is) moved.2 moved.1),
      moved.0,
    )
