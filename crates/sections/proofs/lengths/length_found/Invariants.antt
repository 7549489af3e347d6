-- `length_found` goes over the edges. The loop keeps that what is left, from the length so far, decides. Assumes nothing.
use Prim.Native.Nat.{◌*◌}
use mathlib.Core.Path.{◌≡◌}
use lib.ListN.{drop}
use Rattle.points.specs.Numbers.{f0}
use Rattle.curve2.specs.Section.{points_of}
use Rattle.sections.specs.Places.{at_length_from}
use Rattle.sections.proofs.lengths.length_found.Given as goal

abbrev pub invariant-loop-i : goal.invariant-loop-i
invariant-loop-i l = at_length_from l.section.points.now l.section.tol l.length l.i l.m (points_of (drop (2 * l.i) l.section.points.now)) ≡ at_length_from l.section.points.now l.section.tol l.length 0 f0 (points_of l.section.points.now)
