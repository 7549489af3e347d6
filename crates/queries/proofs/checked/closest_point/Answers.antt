use mathlib.Core.Path.{sym}
use native.Mathlib.Omega.{arith}
use Rattle.errors.proofs.Laws.{handed_on}
use Rattle.queries.proofs.ClosestLaws.{first_refused, first_nearest, closest-refused, closest-nearer, closest-kept, closest-end}
use Rattle.queries.proofs.checked.closest_point.Goals.{then-at-best, else-at-best}
use Rattle.queries.proofs.checked.closest_point.Goals as goal

pub returns-in_err-closest_at : goal.returns-in_err-closest_at
returns-in_err-closest_at c = rw (handed_on _ _ c.from_residual.ensures.1) (first_refused _ _ (omega (arith, c.args.section.now.has_points.least)) _ c.closest_at.ensures _ c.in_err-closest_at.was)

pub loop-index-init : goal.loop-index-init
loop-index-init c = first_nearest _ _ (omega (arith, c.args.section.now.has_points.least)) _ (sym (rw c.in_ok-closest_at.was at c.closest_at.ensures))

pub returns-in_err-at : goal.returns-in_err-at
returns-in_err-at c = rw (handed_on _ _ c.from_residual-in_err-at.ensures.1) (closest-refused _ _ c.loop-index.index c.loop-index.best _ c.loop-index.invariant (omega arith) c.closest_at-in-loop-index.result c.closest_at-in-loop-index.ensures c.in_err-at.field-0.0 c.in_err-at.was)

pub loop-index-preserved : goal.loop-index-preserved
loop-index-preserved c = elim c.if-at-best.branch [
  | then-at-best w ↦ rw w.best-is (closest-nearer _ _ c.loop-index.index c.loop-index.best _ c.loop-index.invariant (omega arith) c.closest_at-in-loop-index.result c.closest_at-in-loop-index.ensures c.in_ok-at.at c.in_ok-at.was w.if-at-best.true)
  | else-at-best w ↦ rw w.best-is (closest-kept _ _ c.loop-index.index c.loop-index.best _ c.loop-index.invariant (omega arith) c.closest_at-in-loop-index.result c.closest_at-in-loop-index.ensures c.in_ok-at.at c.in_ok-at.was w.if-at-best.false)
]

pub returns : goal.returns
returns c = closest-end _ _ c.loop-index.index _ _ c.loop-index.invariant (omega (arith, c.args.section.now.has_points.even, c.args.section.now.has_points.least))
