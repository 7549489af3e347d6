-- `move_up` puts the kept circles to the store's start, one behind the other. Assumes nothing.
use Rattle.refine.proofs.ThinLoop.{Moved}
use Rattle.refine.proofs.thinning.move_up.Given as goal

abbrev pub invariant-loop-k : goal.invariant-loop-k
invariant-loop-k l = Moved l.fn.circles.store.now l.kept l.store l.free l.k
