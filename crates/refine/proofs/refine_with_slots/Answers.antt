-- `refine_with_slots` makes the entry tests, and then refines. Assumes nothing.
use mathlib.Core.Path.{sym}
use native.Mathlib.Omega.{arith}
use Rattle.refine.specs.Report.{listed_run}
use Rattle.refine.specs.Refinement.{refinement}
use Rattle.refine.proofs.RefinementLaw.{entry_count}
use Rattle.std.proofs.Common.{rules}
use Rattle.refine.proofs.RefinementLaw.{ran_in}
use Rattle.refine.proofs.refine_with_slots.Goals as goal

pub with_slot_limit-circles-requires-clause-held : goal.with_slot_limit-circles-requires-clause-held
with_slot_limit-circles-requires-clause-held c = let e = sym (rw c.in_ok-curve.was at c.entered.ensures.entry) in (omega (arith, entry_count _ e), omega (arith, entry_count _ e))

pub returns : goal.returns
unfolding refinement
returns c =
    let (now, slots, count) = c.with_slot_limit-circles.ensures.held in
    rw (← (rw c.in_ok-curve.was at c.entered.ensures.entry), ← c.in_ok-curve.ensures.lent.0) (ran_in (listed_run c.refine.result) _ _ _ (search rules) (rw (now, slots, count, c.none_taken.ensures.0, c.none_taken.ensures.1) at c.refine.ensures.0))
