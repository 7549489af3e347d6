use Rattle.std.proofs.Common.{◌≡◌, ◌+◌, ◌-◌, ◌*◌, ◌/◌, length, arith}
use Rattle.cleaning.proofs.reversed.Laws.{back_none, back_one}
use Rattle.cleaning.proofs.reversed.put_backwards.Goals as goal

pub loop-i-init : goal.loop-i-init
loop-i-init c = let s = c.args.section.now in back_none _ s.points.now _ (omega (arith, s.has_points.even))

pub loop-i-preserved : goal.loop-i-preserved
loop-i-preserved c =
    let s = c.args.section.now in
    let n = length s.points.now / 2 in
    let step : 2 * (n - c.loop-i.i) ≡ 2 * (n - (c.loop-i.i + 1)) + 2 = omega arith in
    let at : n - 1 - c.loop-i.i ≡ n - (c.loop-i.i + 1) = omega arith in
    back_one s.points.now _ _ _ step (omega (arith, s.has_points.even)) _ _ c.requires c.loop-i.invariant _ (rw at at c.vertex_at.ensures) _ c.put.ensures
