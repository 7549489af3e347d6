-- `curve_between` cleans the centres, put between the end points. Assumes nothing.
use native.Mathlib.Omega.{arith}
use mathlib.Core.Path.{ap}
use Rattle.cleaning.specs.Code.{Held}
use Rattle.geometry.proofs.Laws.{between-points}
use Rattle.geometry.proofs.curve_between.Goals as goal

pub returns : goal.returns
returns c = rw (← (between-points _ _ _ _ _ _ _ _ (ap (λ (h : Held). h.output) c.put.ensures) c.put_centers.ensures (ap (λ (h : Held). h.output) c.put-2.ensures) (omega (arith, c.requires)))) c.clean_points.ensures
