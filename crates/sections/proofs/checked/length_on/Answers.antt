use native.Mathlib.Omega.{arith}
use Rattle.sections.proofs.LengthLaws.{length_after}
use Rattle.sections.proofs.checked.length_on.Goals as goal

pub loop-i-preserved : goal.loop-i-preserved
loop-i-preserved c = rw (length_after c.args.section.now.points.now c.loop-i.i (omega arith), ← c.loop-i.invariant, c.edge_length-m.ensures)
