-- `centers_curve` cleans the centres, put one after the other. Assumes nothing.
use native.Mathlib.Omega.{arith}
use Rattle.geometry.proofs.Laws.{through_points}
use Rattle.geometry.proofs.checked.centers_curve.Goals as goal

pub returns : goal.returns
returns c = rw (← (through_points _ _ _ _ c.put_centers.ensures (omega (arith, c.requires)))) c.clean_points.ensures
