-- `extract_circles` makes the entry tests, finds its first circle, and marches in both directions. Assumes nothing.
use mathlib.Core.Path.{ap}
use Rattle.refine.specs.Report.{ran}
use Rattle.camber.specs.Extraction.{extraction_after}
use Rattle.camber.proofs.extraction.extract_circles.Goals as goal

pub returns-in-Ok : goal.returns-in-Ok
unfolding extraction_after
returns-in-Ok c = rw (← (rw c.in_ok-curve.was at c.entered.ensures.entry), ← (rw (c.in-Ok.is, c.in_ok-curve.ensures.lent.0) at c.inscribed_on.ensures)) (ap ran (rw c.in_ok-curve.ensures.lent.0 at (c.both_halves.ensures c.args.section_tol)))
