use Prim.Native.Nat.{◌+◌, ◌-◌}
use native.Mathlib.Omega.{arith}
use mathlib.Core.Path.{◌≡◌}
use lib.ListN.{drop, length-drop}
use Rattle.record.proofs.Words.{map_step, map_few, map_none, bit_is, bit_small}
use Rattle.record.proofs.writing.map_of.Goals as goal

pub loop-i-init : goal.loop-i-init
loop-i-init c = map_none c.args.numbers.now 9 (omega (arith, c.told-numbers))

pub overflow_mul-map : goal.overflow_mul-map
overflow_mul-map c = omega (arith, c.loop-i.invariant, map_few (drop (9 - c.loop-i.i) c.args.numbers.now) (simp length-drop (omega (arith, c.told-numbers))))

pub overflow_add-map : goal.overflow_add-map
overflow_add-map c = omega (arith, c.loop-i.invariant, map_few (drop (9 - c.loop-i.i) c.args.numbers.now) (simp length-drop (omega (arith, c.told-numbers))), bit_small _ _ (bit_is _ _ _ c.bits_of.ensures c.from.ensures))

pub loop-i-preserved : goal.loop-i-preserved
loop-i-preserved c =
    let e : 9 - (c.loop-i.i + 1) ≡ 8 - c.loop-i.i = omega arith in
    rw e (map_step c.args.numbers.now (8 - c.loop-i.i) (9 - c.loop-i.i) _ _ (omega arith) (omega (arith, c.told-numbers)) c.loop-i.invariant (bit_is _ _ _ c.bits_of.ensures c.from.ensures))
