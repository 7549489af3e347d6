-- The offered circle is last, of each offer and at each limit. Assumes nothing.
use Rattle.refine.proofs.RefinementLaw.{offered_law}
use Rattle.refine.proofs.laws.offered_last.Goals as goal

pub returns : goal.returns
returns c = offered_law
