-- `slot_law_of_goings`. Assumes nothing.
use Rattle.runs.specs.Run.{under_limit, never}
use Rattle.camber.proofs.GoingSlots.{two_goings, same_goings}
use Rattle.camber.proofs.laws.slot_law_of_goings.Goals as goal

pub returns-clause-limited : goal.returns-clause-limited
returns-clause-limited c = λ g few more limit larger fits. two_goings g few more (under_limit limit) larger fits

pub returns-clause-plain : goal.returns-clause-plain
returns-clause-plain c = λ g few more larger fits. two_goings g few more never larger fits

pub returns-clause-states : goal.returns-clause-states
returns-clause-states c = λ g few more limit larger fits. same_goings g few more (under_limit limit) larger fits
