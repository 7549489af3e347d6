use mathlib.Core.Path.{refl}
use native.Mathlib.Omega.{arith}
use lib.ListN.{length-set}
use Rattle.std.proofs.lemmas.Result.{err_from_is_err_and}
use Rattle.orient.proofs.curvature.Laws.{taken_none, taken_one, sample_refused, taken_all}
use Rattle.orient.proofs.curvature.samples.Goals as goal

pub loop-i-init : goal.loop-i-init
loop-i-init c = (refl, taken_none _ _ _)

pub returns-in_err-point : goal.returns-in_err-point
returns-in_err-point c =
    let p = err_from_is_err_and c.from_residual.result c.from_residual.ensures.1 in
    rw (p.1, p.2) (sample_refused _ _ _ c.loop-i.i c.loop-i.invariant.0 c.loop-i.invariant.1 (omega arith) _ c.in_err-point.ensures)

pub loop-i-preserved : goal.loop-i-preserved
loop-i-preserved c = (simp length-set c.loop-i.invariant.0, taken_one _ _ _ c.loop-i.i c.loop-i.invariant.0 c.loop-i.invariant.1 (omega arith) _ c.in_ok-point.ensures)

pub returns : goal.returns
returns c = taken_all _ _ _ c.loop-i.i c.loop-i.invariant.0 c.loop-i.invariant.1 (omega arith) (omega arith)
