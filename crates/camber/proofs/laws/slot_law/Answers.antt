-- Two slot limits, within a limit of units and without one. Assumes nothing.
use Rattle.runs.specs.Run.{under_limit, never}
use Rattle.camber.proofs.MarchSlots.{two_calls}
use Rattle.camber.proofs.GoingSlots.{two_states}
use Rattle.camber.proofs.laws.slot_law.Goals as goal

pub returns-clause-limited : goal.returns-clause-limited
returns-clause-limited c = λ m few more limit. two_calls m few more (under_limit limit)

pub returns-clause-plain : goal.returns-clause-plain
returns-clause-plain c = λ m few more. two_calls m few more never

pub returns-clause-states : goal.returns-clause-states
returns-clause-states c = λ m few more limit. two_states m few more (under_limit limit)
