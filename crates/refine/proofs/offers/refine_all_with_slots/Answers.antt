-- `refine_all_with_slots` makes the entry tests, and then offers the list. Assumes nothing.
use mathlib.Core.Path.{sym}
use native.Mathlib.Omega.{arith}
use Rattle.std.proofs.Common.{rules}
use Rattle.refine.specs.Report.{listed_run}
use Rattle.refine.specs.Offers.{refinements}
use Rattle.refine.proofs.RefinementLaw.{ran_in}
use Rattle.refine.proofs.OffersLaws.{offers_count, offers_listed}
use Rattle.refine.proofs.offers.refine_all_with_slots.Goals as goal

pub with_slot_limit-circles-requires-clause-held : goal.with_slot_limit-circles-requires-clause-held
with_slot_limit-circles-requires-clause-held c =
    let e = sym (rw c.in_ok-curve.was at c.entered.ensures.entry) in
    (omega (arith, offers_count _ e), omega (arith, offers_count _ e))

pub invariant_of-list : goal.invariant_of-list
invariant_of-list c =
    let e = sym (rw c.in_ok-curve.was at c.entered.ensures.entry) in
    record { in_store = omega (arith, offers_listed _ e); few = omega (arith, offers_listed _ e) }

pub returns : goal.returns
unfolding refinements
returns c =
    let (now, slots, count) = c.with_slot_limit-circles.ensures.held in
    rw (← (rw c.in_ok-curve.was at c.entered.ensures.entry), ← c.in_ok-curve.ensures.lent.0)
    (ran_in (listed_run c.refine_all.result) _ _ _ (search rules) (rw (now, slots, count, c.none_taken.ensures.0, c.none_taken.ensures.1) at c.refine_all.ensures.0))
