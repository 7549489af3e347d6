-- `clean_points` cleans where two points or more are kept. Assumes nothing.
use Rattle.cleaning.proofs.Made.{made_refused}
use Rattle.cleaning.specs.Cleaning.{curve_of}
use Rattle.errors.proofs.Laws.{told}
use Rattle.cleaning.proofs.checked.clean_points.Goals as goal

pub returns-then-is_too_few : goal.returns-then-is_too_few
unfolding curve_of
returns-then-is_too_few c = made_refused _ _ _ (rw (told c.is_too_few.ensures c.if-is_too_few.true))
