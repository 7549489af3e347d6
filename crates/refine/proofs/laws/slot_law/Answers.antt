-- Two slot limits, within a limit of units and without one. Assumes nothing.
use Rattle.runs.specs.Run.{under_limit, never}
use Rattle.refine.proofs.SlotEntries.{two_offers}
use Rattle.refine.proofs.laws.slot_law.Goals as goal

pub returns-clause-limited : goal.returns-clause-limited
returns-clause-limited c = λ o m more limit. two_offers o m more (under_limit limit)

pub returns-clause-plain : goal.returns-clause-plain
returns-clause-plain c = λ o m more. two_offers o m more never
