-- `crossing_line` puts what one pass has seen in order. Assumes nothing.
use Rattle.errors.proofs.Laws.{handed_on}
use Rattle.queries.proofs.CrossingLaws.{crossing_seen, no_crossing}
use Rattle.queries.proofs.checked.crossing_line.Goals as goal

pub returns-in_err-g : goal.returns-in_err-g
returns-in_err-g c = rw (handed_on _ _ c.from_residual.ensures.1, ← (crossing_seen _ _), ← (rw c.in_err-g.was at c.seen_hits.ensures))

pub returns-then-h-g : goal.returns-then-h-g
returns-then-h-g c = rw (← (crossing_seen _ _), ← (rw c.in_ok-g.was at c.seen_hits.ensures), c.in-Pair.is, c.if-h-g.true) c.spanned.ensures

pub returns-else-h-g : goal.returns-else-h-g
returns-else-h-g c = rw (← (crossing_seen _ _), ← (rw c.in_ok-g.was at c.seen_hits.ensures), c.in-Pair.is, c.if-h-g.false) c.spanned-else-h-g.ensures

pub returns-in-Nothing : goal.returns-in-Nothing
returns-in-Nothing c = rw (← (crossing_seen _ _), ← (rw c.in_ok-g.was at c.seen_hits.ensures)) (no_crossing _ _ c.in-Nothing.is)
