-- The edge of the nearest point is the section's. Assumes nothing.
use mathlib.Core.Path.{sym}
use Rattle.queries.proofs.ClosestLaws.{nearest_below}
use Rattle.sections.proofs.checked.at_closest_to_point.Goals as goal

pub edge_direction-requires : goal.edge_direction-requires
edge_direction-requires c = nearest_below _ _ _ (sym (rw c.in_ok-n.was at c.closest_point.ensures))
