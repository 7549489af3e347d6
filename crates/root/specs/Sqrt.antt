-- Square roots: of a whole number, cut to a whole number; of a binary64 value, as IEEE 754-2019's squareRoot, rounded to the nearest value; and asked for directly. Assumes nothing.
use Rattle.std.specs.Prelude.{ℕ, zero, suc, ◌+◌, ◌-◌, ◌*◌, ◌/◌, ◌^◌, ◌<◌, ◌≤◌, true, false, cond, ℤ, nat_le, Float, Err}
use Prim.Native.Nat.{compare}
use Rattle.std.specs.Float.{nan, inf, fin, binary64}
use Rattle.std.specs.Float.Ieee.{prec, low, up, down, size, nearest, units}
use Rattle.std.specs.Float.Ieee.Scale.{finite}
use Rattle.errors.specs.Answer.{Answer, watched}
use Rattle.errors.specs.declared.Refusal.TheVariants.{BadNumber}

-- ---- of a whole number: the largest whole number whose square is at most n

pub record IsRoot (n q : ℕ) : Type 0 where
  pub below : q * q ≤ n
  pub above : n < suc q * suc q

-- It has d binary digits at most. The root of n is twice the root of n / 4, or one more.
unfoldable pub root_digits : ℕ → ℕ → ℕ
root_digits zero n = 0
root_digits (suc d) n = let r = 2 * root_digits d (n / 4) in cond (nat_le (suc r * suc r) n) (suc r) r

-- A root has no more digits than its square.
unfoldable pub whole_root : ℕ → ℕ
unfolding root_digits size
whole_root n = root_digits (size n) n

-- ---- of a binary64 value, counted in units of the smallest one, 2 ^ -1074: where x is n units, its root is √(n * 2 ^ 1074) units

-- How many units the value m * 2 ^ e is.
abbrev pub in_units : ℕ → ℤ → ℕ
in_units m e = m * up e * 2 ^ low binary64 / down e

-- The value nearest to the root of n units. s is the root's whole part, of which the 53 leading digits q are kept and k digits are dropped.
-- q moves up by one where the root lies beyond the middle of q and q + 1, (2 * q + 1) * 2 ^ k half units.
unfoldable pub root_of_units : ℕ → Float
unfolding whole_root size units
root_of_units n =
    let square = n * 2 ^ low binary64 in
    let s = whole_root square in
    let k = size s - prec binary64 in
    let q = s / 2 ^ k in
    let middle = (2 * q + 1) * 2 ^ k in
    units binary64 false (nearest q (compare (4 * square) (middle * middle))) k

-- "a number below zero gives" NaN here, which every caller refuses with 12; "-0 gives -0".
unfoldable pub sqrt_of : Float → Float
unfolding root_of_units
sqrt_of nan = nan
sqrt_of (inf false) = inf false
sqrt_of (inf true) = nan
sqrt_of (fin s zero e) = fin s zero e
sqrt_of (fin true (suc m) e) = nan
sqrt_of (fin false (suc m) e) = root_of_units (in_units (suc m) e)

-- ---- asked for

-- The root inside a step: 12 where it isn't finite, so for a number below zero too.
abbrev pub root_of : Float → Answer Float
root_of x = watched (sqrt_of x)

-- asked for directly: "what isn't finite is 2", finite and "below zero gives 12"
abbrev pub root_asked : Float → Answer Float
root_asked x = cond (finite x) (root_of x) (Err BadNumber)
