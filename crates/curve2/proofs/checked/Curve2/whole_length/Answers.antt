use Prim.Native.Nat.{◌+◌, ◌*◌}
use mathlib.Core.Path.{◌≡◌, refl}
use native.Mathlib.Omega.{arith}
use Rattle.curve2.specs.Section.{lengths_of, whole_length}
use Rattle.curve2.proofs.Laws.{length_step, length-end}
use Rattle.curve2.proofs.checked.Curve2.whole_length.Goals as goal

pub loop-i-init : goal.loop-i-init
unfolding whole_length lengths_of
loop-i-init c = refl

pub loop-i-preserved : goal.loop-i-preserved
loop-i-preserved c =
    let next : 2 * (c.loop-i.i + 1) ≡ 2 * c.loop-i.i + 2 = omega arith in
    rw next (length_step _ _ _ c.loop-i.invariant (omega arith) _ c.edge_length-length.ensures)

pub returns : goal.returns
returns c = length-end _ (2 * c.loop-i.i) _ c.loop-i.invariant (omega (arith, c.args.self.now.has_points.even, c.args.self.now.has_points.least))
