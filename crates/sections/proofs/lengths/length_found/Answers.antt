use mathlib.Core.Path.{◌≡◌, ◌∙◌}
use native.Mathlib.Omega.{arith}
use Rattle.curve2.specs.Stations.{last_vertex}
use Rattle.sections.proofs.LengthLaws.{at_exact, at_inside, at_later, at_last}
use Rattle.sections.proofs.lengths.length_found.Goals as goal

pub returns-then-m-length : goal.returns-then-m-length
returns-then-m-length c = c.at_vertex.ensures ∙ at_exact _ _ _ _ _ _ c.loop-i.invariant (omega arith) c.if-m-length.true

pub returns-then-length-n : goal.returns-then-length-n
returns-then-length-n c = rw (← (at_inside _ _ _ _ _ _ c.loop-i.invariant (omega arith) c.if-m-length.false _ c.edge_length.ensures c.if-length-n.true)) (rw (c.vertex_at-p.ensures, c.vertex_at-q.ensures) at c.inside_edge.ensures)

pub loop-i-preserved : goal.loop-i-preserved
loop-i-preserved c = at_later _ _ _ _ _ _ c.loop-i.invariant (omega arith) c.if-m-length.false _ c.edge_length.ensures c.if-length-n.false

pub returns : goal.returns
returns c =
    let last : c.loop-i.i ≡ last_vertex c.args.section.now.points.now = omega (arith, c.last_vertex-last.ensures) in
    rw (c.last_vertex-last.ensures, ← last) at c.at_vertex-2.ensures ∙ at_last _ _ _ c.loop-i.i _ _ c.loop-i.invariant c.args.section.now.has_points last
