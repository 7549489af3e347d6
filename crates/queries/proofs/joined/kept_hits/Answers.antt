use Rattle.errors.proofs.Laws.{told}
use Rattle.queries.proofs.joined.Laws.{none_kept, kept_start, kept-dropped, kept_more, kept-end}
use Rattle.queries.proofs.joined.kept_hits.Goals.{then-not-is_near, else-not-is_near}
use Rattle.queries.proofs.joined.kept_hits.Goals as goal

pub returns-in_default : goal.returns-in_default
returns-in_default c = none_kept _ _ c.in_default.ensures.cases

pub loop-hit-init : goal.loop-hit-init
loop-hit-init c = rw c.in-Some.ensures.cases.0 (kept_start _ _ _)

pub loop-hit-preserved : goal.loop-hit-preserved
loop-hit-preserved c = elim c.if-not-is_near.branch [
  | then-not-is_near w ↦ rw (w.last-is, w.seen-is, w.added-seen.ensures) (kept_more _ _ _ _ _ _ c.loop-hit.invariant _ c.loop-hit-test.true (told c.is_near.ensures w.if-not-is_near.true))
  | else-not-is_near w ↦ rw (w.last-is, w.seen-is) (kept-dropped _ _ _ _ _ _ c.loop-hit.invariant _ c.loop-hit-test.true (told c.is_near.ensures w.if-not-is_near.false))
]

pub returns : goal.returns
returns c = kept-end _ _ _ _ _ _ c.loop-hit.invariant c.loop-hit-test.false
