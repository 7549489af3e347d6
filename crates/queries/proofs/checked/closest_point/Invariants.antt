-- `closest_point` begins with the first edge and goes over the others. Assumes nothing.
use mathlib.Core.Path.{◌≡◌}
use Rattle.queries.specs.Nearest.{nearest_of}
use Rattle.queries.proofs.ClosestLaws.{closest_left}
use Rattle.queries.proofs.checked.closest_point.Given as goal

abbrev pub invariant-loop-index : goal.invariant-loop-index
invariant-loop-index l = closest_left l.section.points.now l.p l.index l.best ≡ nearest_of l.section.points.now l.p
