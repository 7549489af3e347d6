-- `give_enough` walks, and asks whether two points are kept. Assumes nothing.
use Rattle.std.proofs.Common.{sym, refl, arith}
use Rattle.errors.proofs.Laws.{handed_on}
use Rattle.partitioning.proofs.StretchLaws.{count_is, there_long, enough_refused, enough_few, enough}
use Rattle.partitioning.proofs.stretch.give_enough.Goals as goal

pub returns-in_err-count : goal.returns-in_err-count
returns-in_err-count c = rw (handed_on c.from_residual.result _ c.from_residual.ensures.1) (enough_refused _ _ _ _ _ _ c.in_err-count.ensures)

pub overflow_mul-given : goal.overflow_mul-given
overflow_mul-given c = let w = c.args.walk.now.walkable in omega (arith, count_is _ _ _ _ _ w _ c.in_ok-count.ensures, w.points.most)

pub slice_bounds-given-end : goal.slice_bounds-given-end
slice_bounds-given-end c = sym (there_long _ _ _ _ _ c.args.walk.now.walkable _ c.in_ok-count.ensures)

pub invariant_of-given : goal.invariant_of-given
invariant_of-given c =
    let l = there_long _ _ _ _ _ c.args.walk.now.walkable _ c.in_ok-count.ensures in
    let n = count_is _ _ _ _ _ c.args.walk.now.walkable _ c.in_ok-count.ensures in
    record { even = omega (arith, l); least = omega (arith, l, n) }

pub returns-then-is_too_few : goal.returns-then-is_too_few
returns-then-is_too_few c = enough_few _ _ _ _ _ c.args.walk.now.walkable _ c.in_ok-count.ensures _ c.is_too_few.ensures c.if-is_too_few.true

pub returns-else-is_too_few : goal.returns-else-is_too_few
returns-else-is_too_few c = enough _ _ _ _ _ c.args.walk.now.walkable _ c.in_ok-count.ensures _ c.is_too_few.ensures c.if-is_too_few.false _ refl refl
