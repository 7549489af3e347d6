-- `put_centers` puts one centre after the other. The loop keeps that the centres left, put behind those that stand, are the whole. Assumes nothing.
use mathlib.Core.Path.{◌≡◌}
use mathlib.Core.List.{map}
use Prim.Native.Nat.{◌+◌, ◌-◌}
use Rattle.inscribed.specs.Circles.{center}
use Rattle.inscribed.specs.Store.{circles_from}
use Rattle.geometry.specs.Camber.{centers}
use Rattle.geometry.specs.Code.{put_all}
use Rattle.geometry.proofs.checked.put_centers.Given as goal

abbrev pub invariant-loop-k : goal.invariant-loop-k
invariant-loop-k l = put_all (l.first + l.k) (map center (circles_from l.circles.store.now l.k (l.circles.count - l.k))) l.points ≡ put_all l.first (centers l.circles.store.now l.circles.count) l.initial.points
