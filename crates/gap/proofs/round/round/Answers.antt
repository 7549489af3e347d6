-- `round` probes, refines up to the probe's circle, and draws the camber line on again. Assumes nothing.
use mathlib.Core.Path.{refl}
use native.Mathlib.Omega.{arith}
use Rattle.gap.proofs.RoundLaws.{round-refused, round_missed, round_refined, ran_grown}
use Rattle.gap.proofs.round.round.Goals as goal

pub after_refined-requires : goal.after_refined-requires
after_refined-requires c =
    let g = ran_grown _ _ _ _ _ c.args.point _ _ _ _ (rw (c.in_use.ensures.0, c.in_use.ensures.1) at c.last_pair-end.ensures) c.args.circles.now.in_store.0 c.args.units.within _ (rw (c.in-Ok-Some.is, c.in-Ok-Some.field-0-is) at c.probe.ensures) c.refine-ran.result c.refine-ran.new.circles.store.now c.refine-ran.ensures.0 in
    omega (arith, g, c.requires, c.refine-ran.ensures.2, c.in_use-in-Ok-Some.ensures.1)

pub returns-in-Ok-Some : goal.returns-in-Ok-Some
returns-in-Ok-Some c =
    let lent = c.in_use-in-Ok-Some.ensures in
    let told = round_refined _ _ _ _ _ _ _ _ _ _ (rw (c.in_use.ensures.0, c.in_use.ensures.1) at c.last_pair-end.ensures) c.args.circles.now.in_store.0 c.args.units.within _ (rw (c.in-Ok-Some.is, c.in-Ok-Some.field-0-is) at c.probe.ensures) c.refine-ran.result c.refine-ran.new.circles.store.now c.refine-ran.ensures.0 c.after_refined.result (rw (lent.0, lent.1, c.refine-ran.ensures.2) at c.after_refined.ensures.round) in
    (rw c.refine-ran.ensures.2 told.returned, told.left, c.refine-ran.ensures.1, rw lent.1 at c.after_refined.ensures.count)

pub returns-in-Ok-None : goal.returns-in-Ok-None
returns-in-Ok-None c =
    let told = round_missed _ _ _ _ _ _ _ _ _ _ (rw (c.in_use.ensures.0, c.in_use.ensures.1) at c.last_pair-end.ensures) (omega (arith, c.args.circles.now.in_store)) c.finished.result (rw (c.in-Ok-None.is, c.in-Ok-None.field-0-is) at c.probe.ensures) (rw c.finished.ensures) in
    (told.returned, told.left, (refl, refl), rw c.finished.ensures)

pub returns-in-Err : goal.returns-in-Err
returns-in-Err c =
    let told = round-refused _ _ _ _ _ _ _ _ _ _ (rw (c.in_use.ensures.0, c.in_use.ensures.1) at c.last_pair-end.ensures) (omega (arith, c.args.circles.now.in_store)) _ c.refused.result (rw c.in-Err.is at c.probe.ensures) (rw c.refused.ensures) in
    (told.returned, told.left, (refl, refl), rw c.refused.ensures)
