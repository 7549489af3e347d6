use native.Mathlib.Omega.{arith}
use lib.Ieee.{of_bits}
use Rattle.inscribed.proofs.MeasureLaws.{tmax_from_first, tmax_kept, tmax_won, tmax_over}
use Rattle.inscribed.proofs.checked.index_of_greatest.Goals.{then-not-r-most, else-not-r-most}
use Rattle.inscribed.proofs.checked.index_of_greatest.Goals as goal

pub loop-k-init : goal.loop-k-init
unfolding of_bits
loop-k-init g c = λ cs d long agrees. tmax_from_first cs

pub loop-k-preserved : goal.loop-k-preserved
loop-k-preserved g c = λ cs d long agrees.
    let k = c.loop-k.k in
    let is = agrees k c.radius-r.result c.loop-k-test.true c.radius-r.ensures in
    elim c.if-not-r-most.branch [
      | then-not-r-most w ↦ rw (w.best-is, w.most-is, is) (tmax_won cs _ _ k (c.loop-k.invariant cs d long agrees) d (omega (arith, long)) (rw is at w.if-not-r-most.true))
      | else-not-r-most w ↦ rw (w.best-is, w.most-is) (tmax_kept cs _ _ k (c.loop-k.invariant cs d long agrees) d (omega (arith, long)) (rw is at w.if-not-r-most.false))
    ]

pub returns : goal.returns
returns g c = λ cs d long agrees. tmax_over cs _ _ c.loop-k.k (c.loop-k.invariant cs d long agrees) (omega (arith, long))
