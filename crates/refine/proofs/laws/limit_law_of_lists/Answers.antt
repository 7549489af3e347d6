-- The limit law, of each list that is offered and at each limit. Assumes nothing.
use Rattle.refine.proofs.OffersLaw.{offers_law}
use Rattle.refine.proofs.laws.limit_law_of_lists.Goals as goal

pub returns : goal.returns
returns c = offers_law
