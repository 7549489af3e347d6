-- `waiting_numbers` writes the waiting circles, one behind the other, over zeros. Assumes nothing.
use native.Mathlib.Omega.{arith}
use Rattle.camber.proofs.StateLaws.{no_circle, numbers_start, numbers_step, numbers_all}
use Rattle.camber.proofs.state.waiting_numbers.Goals as goal

pub loop-k-init : goal.loop-k-init
loop-k-init c = numbers_start c.args.waiting.now.items

pub loop-k-preserved : goal.loop-k-preserved
loop-k-preserved c = rw (c.put_circle.ensures, c.deref.ensures.0) (numbers_step _ _ _ c.loop-k.k no_circle (omega (arith, c.loop-k-test.true, c.len-k-end.ensures.value)) c.loop-k.invariant)

pub returns : goal.returns
returns c = numbers_all _ _ _ c.loop-k.k (omega (arith, c.loop-k-test.false, c.len-k-end.ensures.value)) c.loop-k.invariant
