use mathlib.Core.Path.{◌≡◌, refl}
use Prim.Native.Nat.{◌+◌, ◌-◌}
use native.Mathlib.Omega.{arith}
use Rattle.inscribed.proofs.TurningLaws.{turn_start, turn_step, turn_over}
use Rattle.inscribed.proofs.checked.CirclesStore.reverse_order_only.Goals as goal

pub loop-i-init : goal.loop-i-init
loop-i-init c = turn_start _ _ (omega (arith, c.args.self.now.in_store))

pub loop-i-preserved : goal.loop-i-preserved
loop-i-preserved c =
    let n = c.args.self.now.count in
    let i = c.loop-i.i in
    let at : n - 1 - i ≡ n - i - 1 = omega arith in
    let next : n - (i + 1) ≡ n - i - 1 = omega arith in
    rw (c.put_circle-in-loop-i.ensures, c.put_circle.ensures, c.circle_at-b.ensures, c.circle_at-a.ensures, at, next) (turn_step _ _ _ _ _ c.loop-i.invariant (omega arith))

pub returns : goal.returns
returns c = ((refl, refl), turn_over _ _ _ _ _ c.loop-i.invariant (omega arith), refl)
