-- The root by the tests that come before it: below zero, zero, infinite, and what is left, finite and above zero. Assumes nothing.
use Rattle.std.proofs.Common.{◌≡◌, ℕ, zero, suc, ◌+◌, ◌*◌, ◌<◌, true, false, T, ℤ, pos, sym, refl, subst, zero-lt-suc, mul-pos, arith, lt→ltb, ltb-false, ltb-true}
use lib.Ieee.{Float, nan, inf, fin, up, down, lt, is_nan}
use lib.Ieee.Fits.{up_pos}
use lib.Ieee.Positive.{positive}
use Rattle.root.specs.Sqrt.{sqrt_of}

-- the numerator of a finite value that isn't zero
above : (m : ℕ) (e : ℤ) → 0 < suc m * up e
above m e = mul-pos (zero-lt-suc m) (up_pos e)

pub root-nan : (x : Float) → is_nan x ≡ true → x ≡ sqrt_of x
unfolding is_nan sqrt_of
root-nan nan h = refl
root-nan (inf s) h = cc
root-nan (fin s m e) h = cc

pub below_nan : (x : Float) → lt x (fin false 0 (pos 0)) ≡ true → nan ≡ sqrt_of x
unfolding lt sqrt_of
below_nan nan h = refl
below_nan (inf true) h = refl
below_nan (inf false) h = cc
below_nan (fin true zero e) h = absurd (omega (arith, ltb-true 0 (0 * up e * 1 + 0 * down e) h))
below_nan (fin true (suc m) e) h = refl
below_nan (fin false zero e) h = absurd (omega (arith, ltb-true (0 * up e * 1) (0 * down e) h))
below_nan (fin false (suc m) e) h = absurd (omega (arith, ltb-true (suc m * up e * 1) (0 * down e) h))

pub root-zero : (x : Float) → lt x (fin false 0 (pos 0)) ≡ false → lt (fin false 0 (pos 0)) x ≡ false → x ≡ sqrt_of x
unfolding lt sqrt_of
root-zero nan h g = refl
root-zero (inf true) h g = cc
root-zero (inf false) h g = refl
root-zero (fin true zero e) h g = refl
root-zero (fin true (suc m) e) h g = absurd (omega (arith, ltb-false 0 (suc m * up e * 1 + 0 * down e) h, above m e))
root-zero (fin false zero e) h g = refl
root-zero (fin false (suc m) e) h g = absurd (omega (arith, ltb-false (0 * down e) (suc m * up e * 1) g, above m e))

pub root_infinite : (x : Float) → lt (fin false 0 (pos 0)) x ≡ true → lt x (inf false) ≡ false → x ≡ sqrt_of x
unfolding lt sqrt_of
root_infinite nan h g = refl
root_infinite (inf true) h g = cc
root_infinite (inf false) h g = refl
root_infinite (fin s m e) h g = absurd (subst T g tt)

pub plus-finite : (x : Float) → lt (fin false 0 (pos 0)) x ≡ true → lt x (inf false) ≡ true → T (positive x)
unfolding lt
plus-finite nan h g = subst T (sym h) tt
plus-finite (inf true) h g = subst T (sym h) tt
plus-finite (inf false) h g = subst T (sym g) tt
plus-finite (fin true m e) h g = subst T (sym h) tt
plus-finite (fin false zero e) h g = absurd (omega (arith, ltb-true (0 * down e) (0 * up e * 1) h))
plus-finite (fin false (suc m) e) h g = lt→ltb 0 (suc m) (zero-lt-suc m)
