-- `make_camber_curve` makes the entry tests, and cleans the centres between the end points. Assumes nothing.
use Rattle.std.proofs.lemmas.Result.{err_from_is_err_and}
use Rattle.cleaning.proofs.Made.{made_refused}
use Rattle.geometry.specs.Camber.{camber_curve_between}
use Rattle.geometry.proofs.CentersLaws.{bad_ends}
use Rattle.geometry.proofs.make_camber_curve.Goals as goal

pub returns-in_err-circles : goal.returns-in_err-circles
unfolding camber_curve_between
returns-in_err-circles c =
    let p = err_from_is_err_and c.from_residual.result c.from_residual.ensures.1 in
    rw (p.1, p.2) (made_refused _ _ _ (rw (← (rw bad_ends at c.in_err-circles.ensures.entry))))
