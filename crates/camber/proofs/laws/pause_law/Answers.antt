-- `pause_law`. Assumes nothing.
use Rattle.camber.proofs.PauseLaws.{march_pause, going_pause}
use Rattle.camber.proofs.laws.pause_law.Goals as goal

pub returns-clause-marches : goal.returns-clause-marches
returns-clause-marches c = march_pause

pub returns-clause-goings : goal.returns-clause-goings
returns-clause-goings c = λ g first p whole. going_pause g whole first p
