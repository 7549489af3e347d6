-- `length_on` sums the edges between the two vertices: m is the length at vertex i. Assumes nothing.
use mathlib.Core.Path.{◌≡◌}
use Rattle.sections.specs.Places.{length_at}
use Rattle.sections.proofs.checked.length_on.Given as goal

abbrev pub invariant-loop-i : goal.invariant-loop-i
invariant-loop-i l = l.m ≡ length_at l.section.points.now l.i
