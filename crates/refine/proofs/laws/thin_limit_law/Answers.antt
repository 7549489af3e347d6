-- The limit law of thinnings, at each limit. Assumes nothing.
use Rattle.refine.proofs.ThinningLaw.{limit_law}
use Rattle.refine.proofs.laws.thin_limit_law.Goals as goal

pub returns : goal.returns
returns c = limit_law
