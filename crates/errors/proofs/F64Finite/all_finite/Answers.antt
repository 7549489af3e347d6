-- `f64::is_finite` tells what the logic's `finite` does. Assumes nothing.
use mathlib.Core.Path.{◌≡◌, refl}
use lib.Ieee.{Float, nan, inf, fin}
use lib.Ieee.Scale.{finite}
use Rattle.std.specs.Float.{float_is_finite}
use Rattle.errors.proofs.F64Finite.all_finite.Goals as goal

same : (x : Float) → float_is_finite x ≡ finite x
unfolding float_is_finite
same nan = refl
same (inf s) = refl
same (fin s m e) = refl

pub returns : goal.returns
returns c = rw (c.is_finite.ensures.value) (same _)
