use mathlib.Core.Path.{ap}
use Rattle.cleaning.specs.Code.{Held}
use Rattle.geometry.proofs.Laws.{centers_next, centers-over}
use Rattle.geometry.proofs.checked.put_centers.Goals as goal

pub loop-k-preserved : goal.loop-k-preserved
loop-k-preserved c = centers_next _ _ _ _ _ _ c.loop-k.invariant c.loop-k-test.true _ (ap (λ (h : Held). h.output) (rw (c.center.ensures, c.at.ensures) at c.put.ensures))

pub returns : goal.returns
returns c = centers-over _ _ _ _ _ _ c.loop-k.invariant c.loop-k-test.false
