-- The limit law, of each march and at each limit. Assumes nothing.
use Rattle.camber.proofs.MarchLaw.{march_law}
use Rattle.camber.proofs.laws.limit_law.Goals as goal

pub returns : goal.returns
returns c = march_law
