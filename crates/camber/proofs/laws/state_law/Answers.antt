-- `state_law`. Assumes nothing.
use Rattle.camber.proofs.PauseLaws.{march_states, going_states}
use Rattle.camber.proofs.laws.state_law.Goals as goal

pub returns-clause-marches : goal.returns-clause-marches
returns-clause-marches c = march_states

pub returns-clause-goings : goal.returns-clause-goings
returns-clause-goings c = λ g limit whole. going_states g whole limit
