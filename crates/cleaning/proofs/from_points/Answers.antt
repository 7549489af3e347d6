-- `from_points` makes the entry tests, and cleans. Assumes nothing.
use Rattle.std.proofs.lemmas.Result.{err_from_is_err_and}
use Rattle.cleaning.proofs.Made.{made_refused}
use Rattle.cleaning.specs.Cleaning.{cleaned}
use Rattle.cleaning.proofs.from_points.Goals as goal

pub returns-in_err-check_points : goal.returns-in_err-check_points
unfolding cleaned
returns-in_err-check_points c =
    let p = err_from_is_err_and c.from_residual.result c.from_residual.ensures.1 in
    rw (p.1, p.2) (made_refused _ _ _ (rw (← c.in_err-check_points.ensures)))

pub returns : goal.returns
unfolding cleaned
returns c = rw (← c.in_ok-check_points.ensures) c.clean_points.ensures
