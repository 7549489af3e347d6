use native.Mathlib.Omega.{arith}
use Prim.Native.Nat.{◌-◌, ◌+◌}
use lib.ListN.{length-append}
use mathlib.Core.Path.{◌≡◌}
use Rattle.errors.proofs.Laws.{handed_on}
use Rattle.record.proofs.Loops.{circle_refused, circle_next, circles_end}
use Rattle.record.proofs.reading.read_circles.Goals as goal

pub returns-in_err-circle : goal.returns-in_err-circle
returns-in_err-circle c = rw (handed_on _ _ c.from_residual.ensures.1) (circle_refused _ c.loop.circles.items (c.args.count - c.loop.counter) _ _ (omega arith) c.in_err-circle.ensures c.loop.invariant.1)

pub loop-preserved : goal.loop-preserved
loop-preserved c =
    let less : c.args.count - (c.loop.counter + 1) ≡ c.args.count - c.loop.counter - 1 = omega arith in
    rw (c.push.ensures.items, less) (simp length-append (omega (arith, c.loop.invariant.0)), circle_next _ c.loop.circles.items (c.args.count - c.loop.counter) _ _ _ (omega arith) c.in_ok-circle.ensures c.loop.invariant.1)

pub returns : goal.returns
returns c = let none : c.args.count - c.loop.counter ≡ 0 = omega arith in circles_end _ c.loop.circles.items _ (rw none at c.loop.invariant.1)
