-- `samples` takes one sample after the other. The loop keeps that the samples left, behind those that stand, are the whole. Assumes nothing.
use mathlib.Core.Path.{◌≡◌}
use lib.ListN.{length}
use Rattle.orient.specs.Camber.{camber}
use Rattle.orient.specs.Curvature.{sample_count}
use Rattle.orient.proofs.curvature.Laws.{Taken}
use Rattle.orient.proofs.curvature.samples.Given as goal

abbrev pub invariant-loop-i : goal.invariant-loop-i
invariant-loop-i l = (length l.point-items ≡ sample_count) × Taken (camber l.curve.points.now l.curve.tol) l.whole l.point-items l.i
