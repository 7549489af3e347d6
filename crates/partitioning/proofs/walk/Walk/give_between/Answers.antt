-- `give_between` walks, and puts the end behind what was put where it is farther than the tolerance. Assumes nothing.
use Rattle.std.proofs.Common.{arith}
use Rattle.errors.proofs.Laws.{handed_on}
use Rattle.partitioning.proofs.GivenLaws.{given-refused, given_room, end_near, end_far}
use Rattle.partitioning.proofs.walk.Walk.give_between.Goals as goal

pub returns-in_err-k : goal.returns-in_err-k
returns-in_err-k c = rw (handed_on c.from_residual.result _ c.from_residual.ensures.1) (given-refused _ _ _ _ _ _ c.in_err-k.ensures)

pub put-requires : goal.put-requires
put-requires c = omega (arith, given_room _ _ _ _ c.args.self.now.walkable c.requires _ c.in_ok-k.ensures, c.walk_between.auto.points)

pub returns-then-self-plain_dist : goal.returns-then-self-plain_dist
returns-then-self-plain_dist c = end_far _ _ _ _ c.args.self.now.walkable c.requires _ c.in_ok-k.ensures (rw c.plain_dist.ensures at c.if-self-plain_dist.true) _ c.put.ensures

pub returns-else-self-plain_dist : goal.returns-else-self-plain_dist
returns-else-self-plain_dist c = end_near _ _ _ _ c.args.self.now.walkable c.requires _ c.in_ok-k.ensures (rw c.plain_dist.ensures at c.if-self-plain_dist.false)
