use mathlib.Core.Path.{◌∙◌}
use native.Mathlib.Omega.{arith}
use Rattle.errors.proofs.Laws.{told, handed_on}
use Rattle.halving.proofs.HalvingSteps.{narrow, halving-refused, halving_on, spent}
use Rattle.halving.proofs.bisection.halving_loop.Goals as goal

pub returns-then-not-is_wide : goal.returns-then-not-is_wide
returns-then-not-is_wide c = c.circle_between.ensures ∙ narrow _ _ _ _ c.loop-turn.turn _ _ c.loop-turn.invariant c.loop-turn-test.true (told c.is_wide.ensures c.if-not-is_wide.true)

pub returns-in_err-ends : goal.returns-in_err-ends
returns-in_err-ends c = rw (handed_on _ _ c.from_residual.ensures.1) (halving-refused _ _ _ _ c.loop-turn.turn _ _ c.loop-turn.invariant c.loop-turn-test.true (told c.is_wide.ensures c.if-not-is_wide.false) _ c.halved.ensures _ c.in_err-ends.was)

pub loop-turn-preserved : goal.loop-turn-preserved
loop-turn-preserved c = halving_on _ _ _ _ c.loop-turn.turn _ _ c.loop-turn.invariant c.loop-turn-test.true (told c.is_wide.ensures c.if-not-is_wide.false) _ c.halved.ensures _ c.in_ok-ends.was

pub returns : goal.returns
returns c = c.circle_between-2.ensures ∙ spent _ _ _ _ c.loop-turn.turn _ _ c.loop-turn.invariant (omega arith)
