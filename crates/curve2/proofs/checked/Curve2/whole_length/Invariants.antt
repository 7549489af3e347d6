-- `whole_length` goes over every edge. The loop keeps that what is left, from the length so far, gives the whole. Assumes nothing.
use Prim.Native.Nat.{◌*◌}
use mathlib.Core.Path.{◌≡◌}
use lib.ListN.{drop}
use Rattle.curve2.specs.Section.{points_of, whole_length}
use Rattle.curve2.proofs.Laws.{whole_from}
use Rattle.curve2.proofs.checked.Curve2.whole_length.Given as goal

abbrev pub invariant-loop-i : goal.invariant-loop-i
invariant-loop-i l = whole_from l.length (points_of (drop (2 * l.i) l.self.points.now)) ≡ whole_length l.self.points.now
