-- The limit law, of each offer and at each limit. Assumes nothing.
use Rattle.refine.proofs.RefinementLaw.{refine_law}
use Rattle.refine.proofs.laws.limit_law.Goals as goal

pub returns : goal.returns
returns c = refine_law
