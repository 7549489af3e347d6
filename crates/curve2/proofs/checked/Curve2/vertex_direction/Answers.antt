-- `vertex_direction` tells the ends from the vertices between. Assumes nothing.
use mathlib.Core.Path.{◌∙◌, sym}
use Rattle.curve2.proofs.checked.VertexLaws.{front_direction, back_direction, inner_direction}
use Rattle.curve2.proofs.checked.Curve2.vertex_direction.Goals as goal

pub returns-then-index-eq0 : goal.returns-then-index-eq0
returns-then-index-eq0 c = c.end_direction.ensures ∙ front_direction _ _ _ c.if-index-eq0.true

pub returns-then-index-last_vertex : goal.returns-then-index-last_vertex
returns-then-index-last_vertex c = c.end_direction-then-index-last_vertex.ensures ∙ back_direction _ _ _ c.if-index-eq0.false (c.if-index-last_vertex.true ∙ c.last_vertex.ensures)

pub returns-else-index-last_vertex : goal.returns-else-index-last_vertex
returns-else-index-last_vertex c = c.mean_direction.ensures ∙ inner_direction _ _ _ c.if-index-eq0.false (λ e. c.if-index-last_vertex.false (e ∙ sym c.last_vertex.ensures))
