-- `reverse_order_only` turns the order. The loop keeps that the circles between both ends have still to change places. Assumes nothing.
use mathlib.Core.List.{reverse}
use Prim.Native.Nat.{◌-◌}
use Rattle.inscribed.proofs.TurningLaws.{Turning}
use Rattle.inscribed.specs.Store.{circles_of}
use Rattle.inscribed.proofs.checked.CirclesStore.reverse_order_only.Given as goal

abbrev pub invariant-loop-i : goal.invariant-loop-i
invariant-loop-i l = Turning l.initial.store (reverse (circles_of l.initial.store l.count)) l.store l.i (l.count - l.i)
