-- `waiting_numbers` writes the waiting circles, one behind the other, over zeros. Assumes nothing.
use mathlib.Core.Path.{◌≡◌}
use lib.ListN.{take, replicate}
use Rattle.points.specs.Numbers.{f0}
use Prim.Native.Nat.{◌*◌}
use Rattle.refine.specs.Machine.{most_waiting}
use Rattle.inscribed.specs.Store.{width, stored}
use Rattle.camber.proofs.state.waiting_numbers.Given as goal

abbrev pub invariant-loop-k : goal.invariant-loop-k
invariant-loop-k l = l.numbers ≡ stored (take l.k l.waiting.items) (replicate (most_waiting * width) f0)
