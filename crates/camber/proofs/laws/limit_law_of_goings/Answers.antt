-- `limit_law_of_goings`. Assumes nothing.
use Rattle.camber.proofs.GoingLimit.{going_limit_law}
use Rattle.camber.proofs.laws.limit_law_of_goings.Goals as goal

pub returns : goal.returns
returns c = going_limit_law
