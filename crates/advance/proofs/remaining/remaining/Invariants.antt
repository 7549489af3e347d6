-- `remaining` goes over every point. The loop keeps that what is left, from the farthest so far, decides. Assumes nothing.
use Prim.Native.Nat.{◌*◌}
use mathlib.Core.Path.{◌≡◌}
use lib.ListN.{drop}
use Rattle.curve2.specs.Section.{points_of}
use Rattle.advance.specs.Advance.{farthest, remaining}
use Rattle.advance.proofs.remaining.remaining.Given as goal

abbrev pub invariant-loop-k : goal.invariant-loop-k
invariant-loop-k l = farthest l.ray l.most (points_of (drop (2 * l.k) l.section.points.now)) ≡ remaining l.section.points.now l.ray
