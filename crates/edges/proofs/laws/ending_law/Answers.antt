-- The ending law, of each fit and at each limit. Assumes nothing.
use Rattle.edges.proofs.LimitLaw.{fit_law}
use Rattle.edges.proofs.laws.ending_law.Goals as goal

pub returns : goal.returns
returns c = fit_law
