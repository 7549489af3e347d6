-- `circles_waiting` reads them. Assumes nothing.
use mathlib.Core.Path.{refl, sym}
use native.Mathlib.Omega.{arith}
use Rattle.camber.proofs.StateLaws.{circles_start, circles_more}
use Rattle.camber.proofs.state.circles_waiting.Goals as goal

pub loop-k-init : goal.loop-k-init
loop-k-init c = rw c.new-waiting.ensures (refl, circles_start _)

pub loop-k-preserved : goal.loop-k-preserved
loop-k-preserved c = (omega (arith, c.push.ensures.len, c.loop-k.invariant.0), rw (c.push.ensures.items, c.circle_at.ensures, c.loop-k.invariant.1) (sym (circles_more _ _)))
