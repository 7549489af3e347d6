-- `walk_between` puts the start and a leg behind it, and goes on from the front where that went over the last index and the end lies before the start. Assumes nothing.
use Rattle.std.proofs.Common.{◌∙◌, arith}
use Rattle.errors.proofs.Laws.{handed_on}
use Rattle.partitioning.proofs.WalkLaws.{start_room, over_room, walk_refused, walk_inside, walk_ahead, walk_over}
use Rattle.partitioning.proofs.LegLaws.{counted_one}
use Rattle.partitioning.proofs.walk.Walk.walk_between.Goals.{else-leg-via-then-leg+else-self, else-leg-via-else-leg}
use Rattle.partitioning.proofs.walk.Walk.walk_between.Goals as goal

pub leg-requires-clause-room : goal.leg-requires-clause-room
leg-requires-clause-room c =
    start_room _ _ _ c.args.self.now.walkable _ c.working_at-w.ensures.value _ (rw c.last_index.ensures) _ (counted_one _ _ _ _ c.put-first.ensures) _
    (omega (arith, c.requires, c.put-first.auto.out))

pub returns-in_err-leg : goal.returns-in_err-leg
returns-in_err-leg c =
    rw (handed_on c.from_residual.result _ c.from_residual.ensures.1)
    (walk_refused _ _ _ _ _ (rw (c.last_index.ensures, c.working_at-w.ensures.value, c.put-first.ensures) at c.in_err-leg.ensures))

pub from_front-requires : goal.from_front-requires
from_front-requires c =
    over_room _ _ _ c.args.self.now.walkable _ _ (rw (c.last_index.ensures, c.working_at-w.ensures.value) at c.in_ok-leg.ensures) (counted_one _ _ _ _ c.put-first.ensures) c.if-leg.true c.if-self.true _
    (omega (arith, c.requires, c.put-first.auto.out, c.leg.auto.points))

pub returns-then-self : goal.returns-then-self
returns-then-self c =
    c.from_front.ensures
    ∙ walk_over _ _ _ _ _ (rw (c.last_index.ensures, c.working_at-w.ensures.value, c.put-first.ensures) at c.in_ok-leg.ensures) c.if-leg.true c.if-self.true

pub returns-else-leg : goal.returns-else-leg
returns-else-leg c = let first = rw (c.last_index.ensures, c.working_at-w.ensures.value, c.put-first.ensures) at c.in_ok-leg.ensures in
    elim c.else-leg.branch [
      | else-leg-via-then-leg+else-self w ↦ walk_ahead _ _ _ _ _ first w.if-leg.true w.if-self.false
      | else-leg-via-else-leg w ↦ walk_inside _ _ _ _ _ first w.if-leg.false
    ]
