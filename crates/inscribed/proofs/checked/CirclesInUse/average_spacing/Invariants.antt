-- `average_spacing` sums the distances in order and divides once. The loop keeps that what is left, after the sum so far, is the whole. Assumes nothing.
use mathlib.Core.Path.{◌≡◌}
use Prim.Native.Nat.{◌+◌, ◌-◌}
use Rattle.inscribed.specs.Store.{circle_at, circles_from}
use Rattle.inscribed.specs.Lists.{spacing_sum}
use Rattle.inscribed.proofs.MeasureLaws.{whole_sum}
use Rattle.inscribed.proofs.checked.CirclesInUse.average_spacing.Given as goal

abbrev pub invariant-loop-k : goal.invariant-loop-k
invariant-loop-k l = let last = l.self.count - 1 in spacing_sum l.sum (circle_at l.self.store.now l.k) (circles_from l.self.store.now (l.k + 1) (last - l.k)) ≡ whole_sum l.self.store.now last
