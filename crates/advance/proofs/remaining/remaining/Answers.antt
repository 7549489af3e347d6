use Prim.Native.Nat.{◌+◌, ◌*◌}
use mathlib.Core.Path.{◌≡◌, refl}
use native.Mathlib.Omega.{arith}
use lib.Ieee.{neg, div, of_bits}
use Rattle.errors.proofs.Laws.{handed_on}
use Rattle.advance.proofs.remaining.Laws.{farthest-refused, farthest_on, farthest-end}
use Rattle.advance.proofs.remaining.remaining.Goals as goal

pub loop-k-init : goal.loop-k-init
unfolding of_bits div neg
loop-k-init c = refl

pub returns-in_err-most : goal.returns-in_err-most
returns-in_err-most c = rw (handed_on _ _ c.from_residual.ensures.1) (farthest-refused _ _ (2 * c.loop-k.k) _ _ c.loop-k.invariant (omega arith) _ (rw c.vertex_at.ensures at c.farther.ensures) _ c.in_err-most.was)

pub loop-k-preserved : goal.loop-k-preserved
loop-k-preserved c =
    let next : 2 * (c.loop-k.k + 1) ≡ 2 * c.loop-k.k + 2 = omega arith in
    rw next (farthest_on _ _ (2 * c.loop-k.k) _ _ c.loop-k.invariant (omega arith) _ (rw c.vertex_at.ensures at c.farther.ensures) _ c.in_ok-most.was)

pub returns : goal.returns
returns c = farthest-end _ _ (2 * c.loop-k.k) _ _ c.loop-k.invariant (omega (arith, c.args.section.now.has_points.even))
