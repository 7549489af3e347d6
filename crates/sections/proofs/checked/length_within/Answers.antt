-- `length_within` tells the length along from the length at the edge's first vertex. Assumes nothing.
use mathlib.Core.Path.{◌∙◌}
use Rattle.sections.proofs.LengthLaws.{length-told}
use Rattle.sections.proofs.checked.length_within.Goals as goal

pub returns : goal.returns
returns c = c.watch.ensures ∙ length-told _ _ _ _ _ c.requires.0 c.requires.1 c.edge_length.ensures
