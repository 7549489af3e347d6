-- What a thinning leaves, within a limit of units and without one. Assumes nothing.
use Rattle.runs.specs.Run.{under_limit, never}
use Rattle.refine.proofs.ThinningLaw.{left_law}
use Rattle.refine.proofs.laws.thin_law.Goals as goal

pub returns-clause-limited : goal.returns-clause-limited
returns-clause-limited c = λ t limit. left_law t (under_limit limit)

pub returns-clause-plain : goal.returns-clause-plain
returns-clause-plain c = λ t. left_law t never
