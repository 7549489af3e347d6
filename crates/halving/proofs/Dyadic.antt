-- Fractions of a power of two in binary64: halving between neighbours is exact. Assumes nothing.
use mathlib.Core.Path.{◌≡◌, refl, sym, ap, ◌∙◌, subst}
use mathlib.Core.Bool.{false}
use Prim.Native.Nat.{ℕ, suc, ◌+◌, ◌-◌, ◌*◌, ◌^◌, ◌≤◌, ◌<◌}
use native.Mathlib.Nat.{mul_assoc, mul-pos, lt_of_lt_of_le, pow-succ'}
use native.Mathlib.Numerals.{add-one}
use native.Mathlib.Omega.{arith}
use lib.Pow.{pow_pos, pow_mono, pow-add, shl_lt}
use lib.Ieee.{Float, binary64, round, of_bits}
use lib.Ieee.Digits.{back}
use lib.Ieee.Exact.{HasValue, round_exact}
use lib.Ieee.Scale.{round_same}
use Rattle.points.specs.Numbers.{◌+f◌, ◌-f◌, ◌*f◌, f0, f½, f1}
use Rattle.points.proofs.Values.{add-value, sub-value, mul-value}
use Rattle.halving.specs.Halving.{two_to_minus52}

-- ---- a / 2 ^ k

abbrev pub dyadic : ℕ → ℕ → Float
dyadic a k = round binary64 false a (2 ^ k)

dyadic_value : (a k : ℕ) → a < 2 ^ 53 → k ≤ 52 → HasValue (dyadic a k) false a (2 ^ k)
dyadic_value a k small h =
    let under_limit : 53 + (1074 - k) ≤ 1074 + 1024 = omega arith in
    round_exact binary64 false a (2 ^ k) a (1074 - k) (pow_pos k) small
    (lt_of_lt_of_le (shl_lt 53 (1074 - k) small) (pow_mono under_limit))
    (ap (λ (z : ℕ). a * z) (ap (λ (z : ℕ). 2 ^ z) (sym (back 1074 k (omega arith))) ∙ pow-add 2 (1074 - k) k) ∙ sym (mul_assoc a (2 ^ (1074 - k)) (2 ^ k)))

half_value : HasValue f½ false 1 2
unfolding of_bits
half_value = (refl, refl)

pub one_is_dyadic : f1 ≡ dyadic 1 0
unfolding of_bits round
one_is_dyadic = refl

pub zero_is_dyadic : f0 ≡ dyadic 0 0
unfolding of_bits round
zero_is_dyadic = refl

pub last_is_dyadic : dyadic 1 52 ≡ two_to_minus52
unfolding of_bits round
last_is_dyadic = refl

-- the same fraction at the next power
pub next_power : (a k : ℕ) → dyadic a k ≡ dyadic (a + a) (suc k)
next_power a k = round_same binary64 false a (2 ^ k) (a + a) (2 ^ suc k) (pow_pos k) (pow_pos (suc k)) (omega (arith, ap (λ (z : ℕ). a * z) (pow-succ' 2 k)))

-- the fractions of neighbours are below 2 ^ 53 in sum
neighbours-fit : (a k : ℕ) → a < 2 ^ k → k ≤ 52 → suc a + a < 2 ^ 53
neighbours-fit a k h l = let p : 2 ^ k ≤ 2 ^ 52 = pow_mono l in omega (arith, p)

module _ (a k : ℕ) (below : a < 2 ^ k) (few : k ≤ 52) where
  fits : suc a + a < 2 ^ 53
  fits = neighbours-fit a k below few

  upper-value : HasValue (dyadic (suc a) k) false (suc a) (2 ^ k)
  upper-value = dyadic_value (suc a) k (omega (arith, fits)) few

  lower-value : HasValue (dyadic a k) false a (2 ^ k)
  lower-value = dyadic_value a k (omega (arith, fits)) few

  -- halfway between neighbours
  pub middle : (dyadic (suc a) k +f dyadic a k) *f f½ ≡ dyadic (suc (a + a)) (suc k)
  middle =
      rw (add-value (dyadic (suc a) k) (dyadic a k) (suc a) a (2 ^ k) (pow_pos k) upper-value lower-value)
      (mul-value (dyadic (suc a + a) k) f½ (suc a + a) 1 (2 ^ k) 2 (pow_pos k) (omega arith) (dyadic_value (suc a + a) k fits few) half_value
      ∙ round_same binary64 false ((suc a + a) * 1) (2 ^ k * 2) (suc (a + a)) (2 ^ suc k) (mul-pos (pow_pos k) (omega arith)) (pow_pos (suc k)) (omega (arith, ap (λ (z : ℕ). (suc a + a) * z) (pow-succ' 2 k))))

  -- their distance
  pub apart : dyadic (suc a) k -f dyadic a k ≡ dyadic 1 k
  apart = sub-value (dyadic (suc a) k) (dyadic a k) a 1 (2 ^ k) (pow_pos k) (subst (λ (z : ℕ). HasValue (dyadic (suc a) k) false z (2 ^ k)) (sym (add-one a)) upper-value) lower-value
