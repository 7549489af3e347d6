use native.Mathlib.Omega.{arith}
use Rattle.record.proofs.Lengths.{sum_start, sum_next, sum_end, circle_short}
use Rattle.record.proofs.writing.record_length.Goals as goal

pub loop-k-init : goal.loop-k-init
loop-k-init c = sum_start _ _

pub overflow_add-sum : goal.overflow_add-sum
overflow_add-sum c = omega (arith, c.loop-k.invariant.1, circle_short c.at.result, c.circle_length-sum.ensures)

pub loop-k-preserved : goal.loop-k-preserved
loop-k-preserved c = rw (c.circle_length-sum.ensures, c.at.ensures) (sum_next _ _ c.loop-k.sum c.loop-k.k c.loop-k-test.true c.loop-k.invariant)

pub returns : goal.returns
returns c = sum_end _ _ c.loop-k.sum c.loop-k.k c.loop-k-test.false c.loop-k.invariant
