-- Both stations are on an edge of the section. Assumes nothing.
use Rattle.std.proofs.Common.{sym}
use Rattle.partitioning.proofs.SpotLaws.{spot, spot_on}
use Rattle.partitioning.proofs.stretch.ends_at.Goals as goal

pub length_along-requires : goal.length_along-requires
length_along-requires c = spot_on _ _ _ (spot _ _ _ _ c.requires (sym c.in_ok-end.ensures))

pub length_along-requires-2 : goal.length_along-requires-2
length_along-requires-2 c = spot_on _ _ _ (spot _ _ _ _ c.requires (sym c.in_ok-start.ensures))
