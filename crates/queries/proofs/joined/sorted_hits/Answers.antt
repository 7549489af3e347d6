use native.Mathlib.Omega.{arith}
use Rattle.errors.proofs.Laws.{handed_on}
use Rattle.queries.proofs.joined.Laws.{sorted_start, inserted_bound}
use Rattle.queries.proofs.hits.PassLaws.{pass_refused, pass_missed, pass_hit, pass_end}
use Rattle.queries.proofs.joined.sorted_hits.Goals.{in-Some, in_default}
use Rattle.queries.proofs.joined.sorted_hits.Goals as goal

pub loop-edge-init : goal.loop-edge-init
loop-edge-init c = rw c.requires (omega arith, sorted_start _ _)

pub returns-in_err-t : goal.returns-in_err-t
returns-in_err-t c = rw (handed_on _ _ c.from_residual.ensures.1) (pass_refused _ _ _ _ _ _ c.loop-edge.invariant.1 (omega arith) _ c.hit_at.ensures _ c.in_err-t.was)

pub loop-edge-preserved : goal.loop-edge-preserved
loop-edge-preserved c = elim c.match-branch-2.branch [
  | in-Some w ↦ rw w.hits-is (inserted_bound _ _ _ _ w.insert.ensures c.loop-edge.invariant.0, rw w.insert.ensures (pass_hit _ _ _ _ c.loop-edge.hits.items _ c.loop-edge.invariant.1 (omega arith) _ c.hit_at.ensures _ (rw w.in-Some.is at c.in_ok-t.was)))
  | in_default w ↦ rw w.hits-is (omega arith, pass_missed _ _ _ _ _ _ c.loop-edge.invariant.1 (omega arith) _ c.hit_at.ensures (rw w.in_default.is at c.in_ok-t.was))
]

pub returns : goal.returns
returns c = pass_end _ _ _ c.loop-edge.edge _ _ c.loop-edge.invariant.1 (omega (arith, c.args.section.now.has_points.even, c.args.section.now.has_points.least))
