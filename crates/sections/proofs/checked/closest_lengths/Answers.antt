-- The edges of nearest points are the section's. Assumes nothing.
use mathlib.Core.Path.{sym}
use Rattle.queries.proofs.ClosestLaws.{nearest_below}
use Rattle.sections.proofs.checked.closest_lengths.Goals as goal

pub lengths_along-requires : goal.lengths_along-requires
lengths_along-requires c = (nearest_below _ _ _ (sym (rw c.in_ok-a.was at c.closest_point.ensures)), nearest_below _ _ _ (sym (rw c.in_ok-b.was at c.closest_point-2.ensures)))
