-- One turn, for each way that it goes. Assumes nothing.
use Rattle.std.proofs.Common.{sym, ◌∙◌, arith}
use Rattle.errors.proofs.Laws.{handed_on}
use Rattle.partitioning.proofs.LegLaws.{loop_refused, loop_stops, loop_room, loop_goes, loop_over}
use Rattle.partitioning.proofs.walk.Walk.leg.Goals as goal

pub returns-in_err-take_turn : goal.returns-in_err-take_turn
returns-in_err-take_turn c = rw (handed_on c.from_residual.result _ c.from_residual.ensures.1) (loop_refused _ _ _ _ _ _ _ _ _ c.loop-turn.invariant.1 c.loop-turn-test.true _ (sym c.in_err-take_turn.ensures))

pub returns-in-None : goal.returns-in-None
returns-in-None c = loop_stops _ _ _ _ _ _ _ _ _ c.loop-turn.invariant.1 c.loop-turn-test.true (sym (rw c.in-None.is at c.in_ok-take_turn.ensures))

pub put-kept-requires : goal.put-kept-requires
put-kept-requires c = loop_room _ _ _ _ _ _ _ _ _ c.loop-turn.invariant.1 c.loop-turn-test.true _ (sym (rw c.in-Some.is at c.in_ok-take_turn.ensures))

pub loop-turn-preserved : goal.loop-turn-preserved
loop-turn-preserved c = (
  c.put-kept.auto.out ∙ c.loop-turn.invariant.0,
  loop_goes _ _ _ _ _ _ _ _ _ c.loop-turn.invariant.1 c.loop-turn-test.true _ (sym (rw c.in-Some.is at c.in_ok-take_turn.ensures)) (omega (arith, c.requires.on.on)) _ _ c.put-kept.ensures c.put-kept.auto.out,
)

pub returns : goal.returns
returns c = loop_over _ _ _ c.args.left c.loop-turn._turn _ _ _ _ c.loop-turn.invariant.1 c.loop-turn-test.false
