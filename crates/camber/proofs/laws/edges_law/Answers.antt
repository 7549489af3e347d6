-- The edges that a march tells, of each march and at each limit. Assumes nothing.
use Rattle.camber.proofs.EdgesLaw.{march_edges_lem}
use Rattle.camber.proofs.laws.edges_law.Goals as goal

pub returns : goal.returns
returns c = λ m limit e told. march_edges_lem m e told
