-- `working_at` sums the edges before the station's, and that edge. Assumes nothing.
use Rattle.sections.proofs.LengthLaws.{length_after}
use Rattle.partitioning.proofs.walk.Walk.working_at.Goals as goal

pub returns-clause-value : goal.returns-clause-value
returns-clause-value c = rw (c.length_to-m.ensures, c.edge_length.ensures, length_after _ _ c.requires)

pub returns-clause-on : goal.returns-clause-on
returns-clause-on c = record { on = c.requires; is = returns-clause-value c }
