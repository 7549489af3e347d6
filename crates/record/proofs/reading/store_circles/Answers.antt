use native.Mathlib.Omega.{arith}
use Rattle.record.proofs.Circles.{store_none, store_more}
use Rattle.record.proofs.reading.store_circles.Goals as goal

pub loop-k-init : goal.loop-k-init
loop-k-init c = store_none _

pub loop-k-preserved : goal.loop-k-preserved
loop-k-preserved c = store_more c.args.circles.now c.loop-k.k _ _ _ _ (omega arith) c.loop-k.invariant c.put_circle.ensures
