-- `from_front` puts the front, and a leg behind it. Assumes nothing.
use Rattle.std.proofs.Common.{sym, arith}
use Rattle.errors.proofs.Laws.{handed_on}
use Rattle.partitioning.proofs.WalkLaws.{front_on, front_room, front-refused, front-leg-refused, front-leg}
use Rattle.partitioning.proofs.LegLaws.{counted_one}
use Rattle.partitioning.proofs.walk.Walk.from_front.Goals as goal

pub returns-in_err-front : goal.returns-in_err-front
returns-in_err-front c = rw (handed_on c.from_residual.result _ c.from_residual.ensures.1) (front-refused _ _ _ _ _ (sym c.in_err-front.ensures))

pub working_at-w-requires : goal.working_at-w-requires
working_at-w-requires c = front_on _ _ _ c.args.self.now.walkable _ (sym c.in_ok-front.ensures)

pub leg-requires-clause-room : goal.leg-requires-clause-room
leg-requires-clause-room c =
    front_room _ _ _ c.args.self.now.walkable _ (sym c.in_ok-front.ensures) _ c.working_at-w.ensures.value _ _ _
    (omega (arith, counted_one _ _ _ _ c.put-first.ensures, c.requires, c.put-first.auto.out))

pub returns-in_err-leg : goal.returns-in_err-leg
returns-in_err-leg c =
    rw (handed_on c.from_residual-in_err-leg.result _ c.from_residual-in_err-leg.ensures.1)
    (front-leg-refused _ _ _ _ _ (sym c.in_ok-front.ensures) _ c.put-first.ensures _ (rw (c.last_index.ensures, c.working_at-w.ensures.value) at c.in_err-leg.ensures))

pub returns : goal.returns
returns c = front-leg _ _ _ _ _ (sym c.in_ok-front.ensures) _ c.put-first.ensures _ (rw (c.last_index.ensures, c.working_at-w.ensures.value) at c.in_ok-leg.ensures)
