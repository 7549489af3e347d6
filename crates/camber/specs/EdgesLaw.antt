-- The edges that a march tells are edges of its section, and two different ones. The edges of a section are counted from 0, in its order. Assumes nothing.
use Rattle.std.specs.Prelude.{◌≡◌, ◌<◌, length}
use Rattle.queries.specs.Hits.{section_edges}
use Rattle.queries.specs.declared.HitEdges.{HitEdges}
use Rattle.camber.specs.March.{Marched}

-- of a march and the two edges that it tells
pub record EdgesOf (m : Marched) (e : HitEdges) : Type 0 where
  -- each is the number of an edge of the section
  pub first_below : e.first < length (section_edges m.section)
  pub second_below : e.second < length (section_edges m.section)
  -- they differ
  pub differ : e.first ≡ e.second → ⊥
