-- `thin_circles` makes the entry tests, and then thins. Assumes nothing.
use mathlib.Core.Path.{sym}
use Rattle.std.proofs.Common.{rules}
use Rattle.refine.specs.Report.{listed_run}
use Rattle.refine.specs.Thinning.{thinned, thin_after}
use Rattle.refine.proofs.RefinementLaw.{ran_in}
use Rattle.refine.proofs.ThinLoop.{thin_count}
use Rattle.refine.proofs.thinning.thin_circles.Goals as goal

pub new-circles-requires : goal.new-circles-requires
new-circles-requires c = thin_count _ (sym (rw c.in_ok-curve.was at c.entered.ensures.entry))

pub returns : goal.returns
unfolding thinned thin_after
returns c =
    let (now, slots, count) = c.new-circles.ensures.held in
    rw (← (rw c.in_ok-curve.was at c.entered.ensures.entry), ← c.in_ok-curve.ensures.lent.0) (ran_in (listed_run c.thin.result) _ _ _ (search rules) (rw (now, count) at c.thin.ensures.0))
