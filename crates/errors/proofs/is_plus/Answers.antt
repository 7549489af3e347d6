-- The sign bit is clear in a NaN, and else where std says that the sign is plus. Assumes nothing.
use mathlib.Core.Path.{◌≡◌, refl}
use mathlib.Core.Bool.{true, false, not}
use lib.Ieee.{Float, nan, inf, fin, is_nan}
use Rattle.std.specs.Float.{is_sign_negative}
use Rattle.errors.specs.Numbers.{is_plus}
use Rattle.errors.proofs.is_plus.Goals as goal

of_nan : (x : Float) → is_nan x ≡ true → true ≡ is_plus x
unfolding is_nan
of_nan nan p = refl
of_nan (inf s) p = cc
of_nan (fin s m e) p = cc

of_number : (x : Float) → is_nan x ≡ false → not (is_sign_negative x) ≡ is_plus x
unfolding is_nan is_sign_negative
of_number nan p = cc
of_number (inf s) p = refl
of_number (fin s m e) p = refl

pub returns-then-is_nan : goal.returns-then-is_nan
returns-then-is_nan c = rw c.if-is_nan.true (of_nan _ (rw (← c.is_nan.ensures.value) c.if-is_nan.true))

pub returns-else-is_nan : goal.returns-else-is_nan
returns-else-is_nan c = rw c.is_sign_positive.ensures (of_number _ (rw (← c.is_nan.ensures.value) c.if-is_nan.false))
