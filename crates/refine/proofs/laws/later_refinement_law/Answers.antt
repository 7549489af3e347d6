-- A refinement of what a thinning left. Assumes nothing.
use Rattle.refine.proofs.ThinningLaw.{later_law}
use Rattle.refine.proofs.laws.later_refinement_law.Goals as goal

pub returns : goal.returns
returns c = λ t limit slot_limit later circle entered passes fits. later_law t entered limit slot_limit circle passes fits later
