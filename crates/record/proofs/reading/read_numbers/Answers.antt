use native.Mathlib.Omega.{arith}
use lib.ListN.{take, length-set}
use Prim.Native.Nat.{◌-◌}
use Rattle.errors.proofs.Laws.{handed_on}
use Rattle.inscribed.specs.Store.{width}
use Rattle.record.proofs.Loops.{number_refused, array_next, array_end, alone}
use Rattle.record.proofs.reading.read_numbers.Goals as goal
use mathlib.Core.Path.{refl}

pub returns-in_err-x : goal.returns-in_err-x
returns-in_err-x c = rw (handed_on _ _ c.from_residual.ensures.1) (number_refused _ (take c.loop-i.i c.loop-i.numbers) (width - c.loop-i.i) c.loop-i.i c.loop-i.bits _ _ (omega arith) c.in_err-x.ensures c.loop-i.invariant.1)

pub loop-i-init : goal.loop-i-init
loop-i-init c = (refl, alone _)

pub loop-i-preserved : goal.loop-i-preserved
loop-i-preserved c = (simp length-set c.loop-i.invariant.0, array_next _ c.loop-i.numbers c.loop-i.i c.loop-i.bits _ _ _ c.loop-i.invariant.0 (omega arith) c.in_ok-x.ensures c.loop-i.invariant.1)

pub returns : goal.returns
returns c = array_end _ c.loop-i.numbers c.loop-i.i c.loop-i.bits _ c.loop-i.invariant.0 (omega arith) (omega arith) c.loop-i.invariant.1
