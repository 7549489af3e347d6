-- Every row holds. Assumes nothing.
use Rattle.worked.proofs.Rows.{rows_hold}
use Rattle.worked.proofs.laws.worked_sums.Goals as goal

pub returns : goal.returns
returns c = rows_hold
