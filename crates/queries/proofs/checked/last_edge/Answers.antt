-- A section has one edge fewer than points. Assumes nothing.
use native.Mathlib.Omega.{arith}
use Rattle.curve2.specs.Section.{points_of}
use Rattle.curve2.proofs.Laws.{length-points}
use Rattle.queries.proofs.hits.EdgeLaws.{length-edges}
use Rattle.queries.proofs.checked.last_edge.Goals as goal

pub returns : goal.returns
returns c = omega (arith, c.last_vertex.ensures, length-edges (points_of c.args.section.now.points.now), length-points c.args.section.now.points.now)
