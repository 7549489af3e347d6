-- `store_circles` puts circle after circle. The loop keeps that the first k stand in the store. Assumes nothing.
use mathlib.Core.Path.{◌≡◌}
use lib.ListN.{take}
use Rattle.inscribed.specs.Store.{stored}
use Rattle.record.proofs.reading.store_circles.Given as goal

abbrev pub invariant-loop-k : goal.invariant-loop-k
invariant-loop-k l = l.store ≡ stored (take l.k l.circles) l.initial.store
