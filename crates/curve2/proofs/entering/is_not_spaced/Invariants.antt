-- `is_not_spaced` is test 6. The loop keeps that what is left decides, from the length so far. Assumes nothing.
use Prim.Native.Nat.{◌*◌}
use mathlib.Core.Path.{◌≡◌}
use lib.ListN.{drop}
use Rattle.curve2.proofs.entering.Laws.{not_spaced_from}
use Rattle.curve2.specs.Entry.{not_spaced}
use Rattle.curve2.specs.Section.{points_of}
use Rattle.curve2.proofs.entering.is_not_spaced.Given as goal

abbrev pub invariant-loop-i : goal.invariant-loop-i
invariant-loop-i l = not_spaced_from l.tol l.length (points_of (drop (2 * l.i) l.points)) ≡ not_spaced l.points l.tol
