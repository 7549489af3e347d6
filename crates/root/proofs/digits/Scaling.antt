-- A number m * 2 ^ 52 * 2 ^ e, with m of 53 digits, is a * 2 ^ 52 * 4 ^ k with a = m * 2 ^ (e % 2) and k = e / 2; and what m and e are for the square of a subnormal and of a normal value.
-- Assumes nothing.
use Rattle.std.proofs.Common.{◌≡◌, ℕ, suc, ◌+◌, ◌-◌, ◌*◌, ◌/◌, ◌%◌, ◌^◌, ◌<◌, ◌≤◌, sym, ap, ◌∙◌, subst, le_trans, le_of_eq, lt_of_lt_of_le, mul-le-mul_right, mod-eq_of_lt, mul_assoc, mul-le-mul_left, mul-lt-mul_of_pos_right, lt_of_not-le, not-le_of_lt, arith, pow_pos, pow_mono, pow-add}
use lib.Count.{count_leading_zeros, leading_top}
use Rattle.root.specs.Code.{IsScaled}
use Rattle.root.proofs.digits.Rounded.{four-pow}

halves : (e : ℕ) → 2 ^ e ≡ 2 ^ (e % 2) * 4 ^ (e / 2)
halves e =
    let split : e ≡ e % 2 + (e / 2 + e / 2) = omega arith in
    ap (λ (x : ℕ). 2 ^ x) split ∙ pow-add 2 (e % 2) (e / 2 + e / 2) ∙ ap (λ (x : ℕ). 2 ^ (e % 2) * x) (pow-add 2 (e / 2) (e / 2) ∙ sym (four-pow (e / 2)))

pub scaled_of : (m e : ℕ) → 2 ^ 52 ≤ m → m < 2 ^ 53 → e ≤ 3067 → IsScaled (m * 2 ^ 52 * 2 ^ e) (m * 2 ^ (e % 2) % 2 ^ 64) (e / 2)
scaled_of m e lo hi short =
    let p = 2 ^ (e % 2) in
    let two : p ≤ 2 = pow_mono {j = 1} (omega arith) in
    let least : m * 1 ≤ m * p = mul-le-mul_left m (pow_pos (e % 2)) in
    let most : m * p ≤ m * 2 = mul-le-mul_left m two in
    let fit : m * p % 2 ^ 64 ≡ m * p = mod-eq_of_lt (omega arith) in
    record {
      sum = rw (fit, halves e) (omega arith);
      low = rw fit (omega arith);
      high = rw fit (omega arith);
      short = omega arith;
    }

pub rescaled : {n n' a k : ℕ} → n ≡ n' → IsScaled n a k → IsScaled n' a k
rescaled {n} {n'} {a} {k} e s = subst (λ (x : ℕ). IsScaled x a k) e s

gather : (x a b c : ℕ) → a + b ≡ c → x * 2 ^ a * 2 ^ b ≡ x * 2 ^ c
gather x a b c e = mul_assoc x (2 ^ a) (2 ^ b) ∙ ap (λ (y : ℕ). x * y) (sym (pow-add 2 a b) ∙ ap (λ (y : ℕ). 2 ^ y) e)

-- ---- a normal value, f being the exponent's field

pub normal-sum : (m f : ℕ) → 0 < f → m * 2 ^ 52 * 2 ^ (f + 1021) ≡ m * 2 ^ (f - 1) * 2 ^ 1074
normal-sum m f h = gather m 52 (f + 1021) (f + 1073) (omega arith) ∙ sym (gather m (f - 1) 1074 (f + 1073) (omega arith))

-- ---- a subnormal value of t units, z being the zeros before its leading digit

module _ (t : ℕ) (lo : 0 < t) (hi : t < 2 ^ 52) where
  top : (j : ℕ) × (count_leading_zeros 64 t + suc j ≡ 64) × (2 ^ j ≤ t) × (t < 2 ^ suc j)
  top = leading_top 64 t lo (omega arith)

  place : top.0 < 52
  place = lt_of_not-le (λ (g : 52 ≤ top.0). not-le_of_lt hi (le_trans (pow_mono g) top.2))

  pub zeros_low : 12 ≤ count_leading_zeros 64 t
  zeros_low = omega (arith, place, top.1)

  pub zeros_high : count_leading_zeros 64 t ≤ 63
  zeros_high = omega (arith, top.1)

  up : count_leading_zeros 64 t - 11 ≡ 52 - top.0
  up = omega (arith, place, top.1)

  digits_low : 2 ^ 52 ≤ t * 2 ^ (count_leading_zeros 64 t - 11)
  digits_low = rw up (le_trans (le_of_eq (sym (gather 1 top.0 (52 - top.0) 52 (omega (arith, place))))) (mul-le-mul_right (2 ^ (52 - top.0)) (omega (arith, top.2))))

  digits-high : t * 2 ^ (count_leading_zeros 64 t - 11) < 2 ^ 53
  digits-high = rw up (lt_of_lt_of_le (mul-lt-mul_of_pos_right (omega (arith, top.3)) (pow_pos (52 - top.0))) (le_of_eq (gather 1 (suc top.0) (52 - top.0) 53 (omega (arith, place)))))

  kept : t * 2 ^ (count_leading_zeros 64 t - 11) % 2 ^ 64 ≡ t * 2 ^ (count_leading_zeros 64 t - 11)
  kept = mod-eq_of_lt (omega (arith, digits-high))

  pub shifted-low : 2 ^ 52 ≤ t * 2 ^ (count_leading_zeros 64 t - 11) % 2 ^ 64
  shifted-low = rw kept digits_low

  pub shifted-high : t * 2 ^ (count_leading_zeros 64 t - 11) % 2 ^ 64 < 2 ^ 53
  shifted-high = rw kept digits-high

  pub subnormal-sum : t * 2 ^ (count_leading_zeros 64 t - 11) % 2 ^ 64 * 2 ^ 52 * 2 ^ (1033 - count_leading_zeros 64 t) ≡ t * 2 ^ 1074
  subnormal-sum =
      let z = count_leading_zeros 64 t in
      ap (λ (x : ℕ). x * 2 ^ 52 * 2 ^ (1033 - z)) kept ∙ ap (λ (x : ℕ). x * 2 ^ (1033 - z)) (gather t (z - 11) 52 (z + 41) (omega (arith, zeros_low))) ∙ gather t (z + 41) (1033 - z) 1074 (omega (arith, zeros_low, zeros_high))
