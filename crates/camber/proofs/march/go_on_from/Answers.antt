-- `go_on_from` is the march from a state on. Assumes nothing.
use mathlib.Core.Path.{refl, sym, ap, ◌∙◌}
use native.Mathlib.Omega.{arith}
use lib.ListN.{length-reverse}
use mathlib.Core.List.{[]}
use Rattle.refine.specs.Report.{RunReport}
use Rattle.refine.proofs.RefineLaws.{ended-unspent}
use Rattle.camber.proofs.MarchFrom.{top_start, top_ends, top_waits, top_due, was_idle, top_falls, top_ready, ready_ends, ready_spent, spent_report, ready_next, other-unfinished, finished-listed}
use Rattle.advance.specs.Code.{listed_advanced}
use Rattle.camber.proofs.march.go_on_from.Goals as goal

pub loop-ran-init : goal.loop-ran-init
loop-ran-init c = let (fits, in_bounds) = c.args.circles.now.in_store in
    ((refl, refl), c.requires.few, top_start _ _ _ _ _ _ _ _ _ c.requires.some fits in_bounds c.args.units.within c.requires.fraction c.requires.idle)

pub returns-in_default-clause-run : goal.returns-in_default-clause-run
returns-in_default-clause-run c = let (same, few, top) = c.loop-ran.invariant in
    (top_ends _ _ _ _ _ _ _ _ _ _ _ top c.refine_waiting-ran.result _ c.refine_waiting-ran.ensures.run.0 (other-unfinished c.refine_waiting-ran.result.end c.in_default.not-Finished), (c.refine_waiting-ran.ensures.run.1.0 ∙ same.0, c.refine_waiting-ran.ensures.run.1.1 ∙ same.1), c.refine_waiting-ran.ensures.run.2)

pub returns-in_default-clause-paused : goal.returns-in_default-clause-paused
returns-in_default-clause-paused c = let (same, few, top) = c.loop-ran.invariant in
    λ e. (
      c.refine_waiting-ran.ensures.waits e ∙ sym (top_waits _ _ _ _ _ _ _ _ _ _ _ top c.refine_waiting-ran.result _ c.refine_waiting-ran.ensures.run.0 (other-unfinished c.refine_waiting-ran.result.end c.in_default.not-Finished)),
      was_idle _ _ _ _ _ _ _ _ _ _ _ top c.refine_waiting-ran.result _ c.refine_waiting-ran.ensures.run.0 (other-unfinished c.refine_waiting-ran.result.end c.in_default.not-Finished)
          ∙ sym (top_due _ _ _ _ _ _ _ _ _ _ _ top c.refine_waiting-ran.result _ c.refine_waiting-ran.ensures.run.0 (other-unfinished c.refine_waiting-ran.result.end c.in_default.not-Finished)),
    )

pub last-requires : goal.last-requires
last-requires c = let r = top_ready _ _ _ _ _ _ _ _ _ _ _ c.loop-ran.invariant.2 c.refine_waiting-ran.result _ c.refine_waiting-ran.ensures.run.0 (finished-listed c.refine_waiting-ran.result.end c.in-Finished.is) in omega (arith, r.counted, c.refine_waiting-ran.ensures.run.2)

pub invariant_of-units : goal.invariant_of-units
invariant_of-units c = let r = top_ready _ _ _ _ _ _ _ _ _ _ _ c.loop-ran.invariant.2 c.refine_waiting-ran.result _ c.refine_waiting-ran.ensures.run.0 (finished-listed c.refine_waiting-ran.result.end c.in-Finished.is) in record { within = omega (arith, r.within) }

pub advance-requires : goal.advance-requires
advance-requires c = c.loop-ran.invariant.2.due

pub returns-in-Ended-clause-run : goal.returns-in-Ended-clause-run
returns-in-Ended-clause-run c = let (same, few, top) = c.loop-ran.invariant in
    let r = top_ready _ _ _ _ _ _ _ _ _ _ _ top c.refine_waiting-ran.result _ c.refine_waiting-ran.ensures.run.0 (finished-listed c.refine_waiting-ran.result.end c.in-Finished.is) in
    (c.ended.ensures _ ∙ rw c.refine_waiting-ran.ensures.run.2 (ready_ends _ _ _ _ _ _ _ _ _ _ r c.advance.result (rw (c.last.ensures, c.refine_waiting-ran.ensures.run.2) at c.advance.ensures.0) _ c.in-Ended.u (ap listed_advanced c.in-Ended.is)), (c.refine_waiting-ran.ensures.run.1.0 ∙ same.0, c.refine_waiting-ran.ensures.run.1.1 ∙ same.1), sym (ap (λ (x : RunReport). x.count) (c.ended.ensures [])))

pub returns-in-Ended-clause-paused : goal.returns-in-Ended-clause-paused
returns-in-Ended-clause-paused c = λ e. absurd (ended-unspent _ (sym (ap (λ (x : RunReport). x.ending) (c.ended.ensures [])) ∙ e))

pub returns-in-Spent-clause-run : goal.returns-in-Spent-clause-run
returns-in-Spent-clause-run c = let (same, few, top) = c.loop-ran.invariant in
    let r = top_ready _ _ _ _ _ _ _ _ _ _ _ top c.refine_waiting-ran.result _ c.refine_waiting-ran.ensures.run.0 (finished-listed c.refine_waiting-ran.result.end c.in-Finished.is) in
    (rw (c.spent.ensures, c.refine_waiting-ran.ensures.run.2) (spent_report _ _ _ _ _ _ _ _ _ _ r c.advance.result (rw (c.last.ensures, c.refine_waiting-ran.ensures.run.2) at c.advance.ensures.0) c.in-Spent.k c.in-Spent.u (ap listed_advanced c.in-Spent.is)), (c.refine_waiting-ran.ensures.run.1.0 ∙ same.0, c.refine_waiting-ran.ensures.run.1.1 ∙ same.1), rw c.spent.ensures refl)

pub returns-in-Spent-clause-paused : goal.returns-in-Spent-clause-paused
returns-in-Spent-clause-paused c = let (same, few, top) = c.loop-ran.invariant in
    let over = finished-listed c.refine_waiting-ran.result.end c.in-Finished.is in
    let r = top_ready _ _ _ _ _ _ _ _ _ _ _ top c.refine_waiting-ran.result _ c.refine_waiting-ran.ensures.run.0 over in
    let stands = ready_spent _ _ _ _ _ _ _ _ _ _ r c.advance.result (rw (c.last.ensures, c.refine_waiting-ran.ensures.run.2) at c.advance.ensures.0) c.in-Spent.k c.in-Spent.u (ap listed_advanced c.in-Spent.is) in
    λ e. rw (c.refine_waiting-ran.ensures.none_left over, stands) (refl, refl)

pub loop-ran-smaller : goal.loop-ran-smaller
loop-ran-smaller c = let (same, few, top) = c.loop-ran.invariant in
    let f = top_falls _ _ _ _ _ _ _ _ _ _ _ top c.refine_waiting-ran.result _ c.refine_waiting-ran.ensures.run.0 (finished-listed c.refine_waiting-ran.result.end c.in-Finished.is) in
    omega (arith, f, length-reverse c.loop-ran.waiting.items, c.refine_waiting-ran.ensures.run.1.1, c.refine_waiting-ran.ensures.run.2, c.push.ensures.len)

pub loop-ran-preserved : goal.loop-ran-preserved
loop-ran-preserved c = let (same, few, top) = c.loop-ran.invariant in
    let over = finished-listed c.refine_waiting-ran.result.end c.in-Finished.is in
    let r = top_ready _ _ _ _ _ _ _ _ _ _ _ top c.refine_waiting-ran.result _ c.refine_waiting-ran.ensures.run.0 over in (
      (c.refine_waiting-ran.ensures.run.1.0 ∙ same.0, c.refine_waiting-ran.ensures.run.1.1 ∙ same.1),
      rw (c.push.ensures.items, c.refine_waiting-ran.ensures.none_left over) (omega arith),
      rw (c.refine_waiting-ran.ensures.run.1.1, c.refine_waiting-ran.ensures.run.2, c.push.ensures.items, c.refine_waiting-ran.ensures.none_left over)
          (ready_next _ _ _ _ _ _ _ _ _ _ r c.advance.result (rw (c.last.ensures, c.refine_waiting-ran.ensures.run.2) at c.advance.ensures.0) _ _ (ap listed_advanced c.in-Next.is) (rw c.in-Next.is at c.advance.ensures.1)),
    )
