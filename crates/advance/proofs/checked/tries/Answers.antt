-- `tries` is the tries from the first fraction on. The loop keeps that what is left decides. Assumes nothing.
use mathlib.Core.Path.{refl, sym, ◌∙◌}
use native.Mathlib.Omega.{arith}
use Rattle.std.proofs.lemmas.Bool.{leb-true, leb-false}
use Rattle.advance.proofs.AdvanceLaws.{tries-short, tries-spent, tries-refused, tries-found, tries_missed, tries-over, circle-units}
use Rattle.advance.proofs.checked.tries.Goals as goal

pub loop-k-init : goal.loop-k-init
loop-k-init c = (refl, refl)

pub returns-then-step_of-tol : goal.returns-then-step_of-tol
returns-then-step_of-tol c = (tries-short _ _ _ _ _ c.loop-k.k _ _ c.loop-k.invariant.1 c.loop-k-test.true (rw c.step_of.ensures at c.if-step_of-tol.true), omega (arith, c.loop-k.invariant.0, c.loop-k.u.within))

pub returns-in-None : goal.returns-in-None
returns-in-None c = (tries-spent _ _ _ _ _ c.loop-k.k _ _ c.loop-k.invariant.1 c.loop-k-test.true (rw c.step_of.ensures at c.if-step_of-tol.false) (omega (arith, c.loop-k.invariant.0, leb-true _ _ (sym c.in-None.ensures.spent))), omega (arith, c.loop-k.invariant.0, c.loop-k.u.within))

pub returns-in-Ok-Some : goal.returns-in-Ok-Some
returns-in-Ok-Some c = (c.circle_of.ensures ∙ (rw (← c.in-Some.ensures.one.1) at (tries-found _ _ _ _ _ c.loop-k.k _ _ c.loop-k.invariant.1 c.loop-k-test.true (rw c.step_of.ensures at c.if-step_of-tol.false) (omega (arith, c.loop-k.invariant.0, leb-false _ _ (sym c.in-Some.ensures.spent))) _ c.tried_line.ensures _ (rw c.in-Ok-Some.field-0-is at c.in-Ok-Some.is))), rw (c.circle_of.ensures, circle-units) (omega (arith, c.loop-k.invariant.0, c.in-Some.ensures.one.1, leb-false _ _ (sym c.in-Some.ensures.spent))))

pub returns-in-Err : goal.returns-in-Err
returns-in-Err c = (rw c.in-Some.ensures.one.1 (tries-refused _ _ _ _ _ c.loop-k.k _ _ c.loop-k.invariant.1 c.loop-k-test.true (rw c.step_of.ensures at c.if-step_of-tol.false) (omega (arith, c.loop-k.invariant.0, leb-false _ _ (sym c.in-Some.ensures.spent))) _ c.tried_line.ensures _ c.in-Err.is), omega (arith, c.loop-k.invariant.0, c.in-Some.ensures.one.1, leb-false _ _ (sym c.in-Some.ensures.spent)))

pub loop-k-preserved : goal.loop-k-preserved
loop-k-preserved c = (c.in-Some.ensures.one.0 ∙ c.loop-k.invariant.0, rw c.in-Some.ensures.one.1 (tries_missed _ _ _ _ _ c.loop-k.k _ _ c.loop-k.invariant.1 c.loop-k-test.true (rw c.step_of.ensures at c.if-step_of-tol.false) (omega (arith, c.loop-k.invariant.0, leb-false _ _ (sym c.in-Some.ensures.spent))) _ c.tried_line.ensures (rw c.in-Ok-None.field-0-is at c.in-Ok-None.is)))

pub returns : goal.returns
returns c = ((tries-over _ _ _ _ _ c.loop-k.k _ _ c.loop-k.invariant.1 (omega arith)), omega (arith, c.loop-k.invariant.0, c.loop-k.u.within))
