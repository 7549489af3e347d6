-- `is_beyond_end` asks 7, works out the clip line and looks beyond it. Assumes nothing.
use Rattle.edges.specs.Edges.{ends_beyond}
use Rattle.edges.proofs.EndLaws.{too_few_at_end}
use Rattle.edges.proofs.open_end.is_beyond_end.Goals as goal

pub returns-then-circles-lt2 : goal.returns-then-circles-lt2
unfolding ends_beyond
returns-then-circles-lt2 c = rw (too_few_at_end c.args.at_front _ _ c.if-circles-lt2.true)
