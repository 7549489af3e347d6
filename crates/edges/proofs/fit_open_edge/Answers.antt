-- `fit_open_edge` makes the entry tests, and then the fit. Assumes nothing.
use mathlib.Core.Path.{sym}
use native.Mathlib.Omega.{arith}
use Rattle.std.proofs.Common.{rules}
use Rattle.refine.proofs.RefinementLaw.{ran_in}
use Rattle.refine.specs.Report.{listed_run}
use Rattle.edges.specs.Edges.{fit_after}
use Rattle.edges.proofs.EntryLaws.{entry_count}
use Rattle.edges.proofs.fit_open_edge.Goals as goal

pub new-circles-requires : goal.new-circles-requires
new-circles-requires c = let e = sym (rw c.in_ok-curve.was at c.entered.ensures.entry) in (omega (arith, entry_count _ _ e), omega (arith, entry_count _ _ e))

pub returns : goal.returns
unfolding fit_after
returns c =
    let (now, slots, count) = c.new-circles.ensures.held in
    rw (← (rw (c.in_ok-curve.was, c.is_finer_general-finer.ensures) at c.entered.ensures.entry)) (ran_in (listed_run c.fit.result) _ _ _ (search rules) (rw (c.in_ok-curve.ensures.lent.0, c.in_ok-curve.ensures.lent.1, now, slots, count) at c.fit.ensures.fit))
