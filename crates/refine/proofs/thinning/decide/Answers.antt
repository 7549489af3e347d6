-- `decide` finds which circles are kept. Assumes nothing.
use mathlib.Core.Path.{sym, ◌∙◌}
use Prim.Native.Nat.{◌+◌, ◌<◌}
use native.Mathlib.Omega.{arith}
use Rattle.std.proofs.lemmas.Bool.{leb-true, leb-false}
use Rattle.refine.specs.declared.RunEnd.{RunEnd}
use Rattle.refine.proofs.ThinLoop.{decide_start, decide_spent, decide_refused, decide_dropped, decide_kept, decide_over, other_decides, over_decides, spent-unfinished, refused-unfinished}
use Rattle.refine.proofs.thinning.decide.Goals.{then-keeps, else-keeps}
use Rattle.refine.proofs.thinning.decide.Goals as goal

pub loop-k-init : goal.loop-k-init
loop-k-init c = (c.none_taken-u.ensures.0, rw (c.push.ensures.items, c.requires.none, c.at-last.ensures, c.none_taken-u.ensures.1) (decide_start _ _ _ _ _ (omega (arith, c.requires.two))))

pub returns-in-None : goal.returns-in-None
returns-in-None c = let loop = c.loop-k in
    rw c.spent.ensures (other_decides _ _ _ _ _ RunEnd.Spent _ (decide_spent _ _ _ _ _ _ _ _ _ _ loop.invariant.1 (omega (arith, c.loop-k-test.true)) (omega (arith, loop.invariant.0, leb-true _ _ (sym c.in-None.ensures.spent)))) spent-unfinished)

pub returns-in-Err : goal.returns-in-Err
returns-in-Err c = let loop = c.loop-k in
    rw (c.refused.ensures, c.in-Some.ensures.one.1)
    (other_decides _ _ _ _ _ (RunEnd.Refused c.in-Err.r) _ (decide_refused _ _ _ _ _ _ _ _ _ _ loop.invariant.1 (omega (arith, c.loop-k-test.true)) (omega (arith, loop.invariant.0, leb-false _ _ (sym c.in-Some.ensures.spent))) _ (sym (rw (c.at-next.ensures, c.in-Err.is) at c.inscribed_refined.ensures))) (refused-unfinished c.in-Err.r))

pub loop-k-preserved : goal.loop-k-preserved
loop-k-preserved c = let loop = c.loop-k in
    let inner : loop.k + 1 < c.args.circles.now.count = omega (arith, c.loop-k-test.true) in
    let more : loop.u.taken < c.args.limit = omega (arith, loop.invariant.0, leb-false _ _ (sym c.in-Some.ensures.spent)) in
    let tried = sym (rw (c.at-next.ensures, c.in-Ok.is) at c.inscribed_refined.ensures) in (
      c.in-Some.ensures.one.0 ∙ loop.invariant.0,
      rw (c.in-Some.ensures.one.1, c.push-in-loop-k.ensures.items)
          (elim c.if-keeps.branch [
            | then-keeps w ↦ rw (w.if-keeps.true, w.last-is, w.at-last-then-keeps.ensures) (decide_kept _ _ _ _ _ _ _ _ _ _ loop.invariant.1 inner more _ tried (rw w.if-keeps.true at (sym c.is_some-keeps.ensures)))
            | else-keeps w ↦ rw (w.if-keeps.false, w.last-is) (decide_dropped _ _ _ _ _ _ _ _ _ _ loop.invariant.1 inner more _ tried (rw w.if-keeps.false at (sym c.is_some-keeps.ensures)))
          ]),
    )

pub returns : goal.returns
returns c = let loop = c.loop-k in
    rw (c.finished.ensures, c.push-2.ensures.items) (over_decides _ _ _ _ _ _ (decide_over _ _ _ _ _ _ _ _ _ _ loop.invariant.1 (omega (arith, c.loop-k-test.false, c.requires.two))))
