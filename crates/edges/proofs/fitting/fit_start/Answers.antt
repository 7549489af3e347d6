-- `fit_start` asks 7 before the clip line. Assumes nothing.
use Rattle.edges.specs.Edges.{fit_start}
use Rattle.lists.proofs.ends.Laws.{too_few}
use Rattle.edges.proofs.fitting.fit_start.Goals as goal

pub returns-then-circles-lt2 : goal.returns-then-circles-lt2
unfolding fit_start
returns-then-circles-lt2 c = rw (too_few _ _ c.if-circles-lt2.true)

pub returns : goal.returns
unfolding fit_start
returns c = rw c.last_pair.ensures c.start_of.ensures
