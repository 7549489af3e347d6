-- `root_of_word`: one turn, for either digit. Assumes nothing.
use Rattle.std.proofs.Common.{arith}
use Rattle.root.proofs.isqrt.Turns.{fed_below, turn_0, turn_1}
use Rattle.root.proofs.isqrt.root_of_word.Goals.{then-u-t, else-u-t}
use Rattle.root.proofs.isqrt.root_of_word.Goals as goal

pub overflow_mul-t : goal.overflow_mul-t
overflow_mul-t c = omega (arith, fed_below 53 c.loop-turn.invariant (omega arith))

pub overflow_add-t : goal.overflow_add-t
overflow_add-t c = omega (arith, fed_below 53 c.loop-turn.invariant (omega arith))

pub overflow_mul-u : goal.overflow_mul-u
overflow_mul-u c = omega (arith, fed_below 53 c.loop-turn.invariant (omega arith))

pub overflow_add-u : goal.overflow_add-u
overflow_add-u c = omega (arith, fed_below 53 c.loop-turn.invariant (omega arith))

pub loop-turn-preserved : goal.loop-turn-preserved
loop-turn-preserved c = elim c.if-u-t.branch [
  | then-u-t w ↦ rw w.root-is (turn_1 62 _ _ _ _ _ c.loop-turn.invariant _ (omega (arith, fed_below 53 c.loop-turn.invariant (omega arith))))
  | else-u-t w ↦ rw w.root-is (turn_0 62 _ _ _ _ _ c.loop-turn.invariant (omega arith))
]
