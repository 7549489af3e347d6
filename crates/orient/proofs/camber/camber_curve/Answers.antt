-- `camber_curve` makes the curve in the array that is lent. Assumes nothing.
use native.Mathlib.Omega.{arith}
use Rattle.std.proofs.lemmas.Result.{err_from_is_err_and}
use Rattle.geometry.proofs.Laws.{centers_long}
use Rattle.orient.specs.Camber.{camber_of, camber_with}
use Rattle.orient.proofs.camber.Laws.{made_curve, curve_has_points, camber_refused}
use Rattle.orient.proofs.camber.camber_curve.Goals as goal

pub overflow_mul-result : goal.overflow_mul-result
overflow_mul-result c = let s = c.args.circles.now in omega (arith, (made_curve _ _ _ _ _ c.in_ok-made.ensures).most, centers_long s.store.now s.count, c.requires)

pub shared_ref_as_front-result : goal.shared_ref_as_front-result
shared_ref_as_front-result c = let s = c.args.circles.now in omega (arith, (made_curve _ _ _ _ _ c.in_ok-made.ensures).most, centers_long s.store.now s.count, c.requires)

pub invariant_of-result : goal.invariant_of-result
invariant_of-result c =
    let s = c.args.circles.now in
    record { has_points = curve_has_points _ _ _ _ (made_curve _ _ _ _ _ c.in_ok-made.ensures) (omega (arith, centers_long s.store.now s.count, c.requires)) }

pub returns-in_err-made : goal.returns-in_err-made
unfolding camber_of
returns-in_err-made c =
    let p = err_from_is_err_and c.from_residual-in_err-made.result c.from_residual-in_err-made.ensures.1 in
    rw (p.1, p.2, ← c.in_ok-tol.ensures) (camber_refused _ _ _ _ _ c.in_err-made.ensures)

pub returns : goal.returns
unfolding camber_of camber_with
returns c = let m = made_curve _ _ _ _ _ c.in_ok-made.ensures in rw (← c.in_ok-tol.ensures, m.is, m.numbers)
