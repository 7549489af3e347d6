-- The exact test whether q is the whole number nearest to the root of a * 2 ^ 52. With q = h * 2 ^ 26 + l, a * 2 ^ 52 - q * q is (d * 2 ^ 25 - h * l) * 2 ^ 27 - l * l for d = a - h * h.
-- The code has each difference modulo 2 ^ 64, and knows of the first two that they are small. Assumes nothing.
use Rattle.std.proofs.Common.{◌≡◌, ℕ, ◌+◌, ◌-◌, ◌*◌, ◌/◌, ◌%◌, ◌^◌, ◌<◌, ◌≤◌, Bool, true, false, not, T, leb, ◌⊎◌, sym, ap, ◌∙◌, inl, inr, zero-le, lt_of_le_of_lt, le_of_lt, mod-eq_of_lt, mod-lt, mul-le-mul_left, mul-lt-mul_of_pos_right, arith, leb→le}
use lib.Pow.{split}
use lib.Dec.{nleb→lt}
use Rattle.root.specs.Code.{NearRoot}

-- a - b, modulo 2 ^ 64
abbrev pub wrapped_sub : ℕ → ℕ → ℕ
wrapped_sub a b = (a + (2 ^ 64 - b)) % 2 ^ 64

wrapped_back : (a b : ℕ) → a < 2 ^ 64 → b < 2 ^ 64 → (wrapped_sub a b + b) % 2 ^ 64 ≡ a
wrapped_back a b A B = omega arith

product_lt : {a b m n : ℕ} → a < m → b < n → a * b < m * n
product_lt {a} {b} {m} {n} h k = lt_of_le_of_lt (mul-le-mul_left a (le_of_lt k)) (mul-lt-mul_of_pos_right h (lt_of_le_of_lt zero-le k))

-- the last difference, f + 1 - q, where the second is e, and where it is e - 2 ^ 64
last_plus : (e f z q : ℕ) → e < 2 ^ 27 → f + z < 2 ^ 64 → q < 2 ^ 53 → 0 < q → (f + z) % 2 ^ 64 ≡ (e * 2 ^ 27 % 2 ^ 64 + (q - 1)) % 2 ^ 64 → f + z + 1 ≡ e * 2 ^ 27 + q
last_plus e f z q E Z Q P h =
    let s : e * 2 ^ 27 % 2 ^ 64 ≡ e * 2 ^ 27 = mod-eq_of_lt (omega arith) in
    let l : (f + z) % 2 ^ 64 ≡ f + z = mod-eq_of_lt Z in
    let r : (e * 2 ^ 27 + (q - 1)) % 2 ^ 64 ≡ e * 2 ^ 27 + (q - 1) = mod-eq_of_lt (omega arith) in
    let g : f + z ≡ e * 2 ^ 27 + (q - 1) = sym l ∙ h ∙ ap (λ (x : ℕ). (x + (q - 1)) % 2 ^ 64) s ∙ r in
    omega (arith, g, P)

top_mod : (e : ℕ) → e < 2 ^ 64 → 2 ^ 64 ≤ e + 2 ^ 27 → e * 2 ^ 27 % 2 ^ 64 ≡ e * 2 ^ 27 - (2 ^ 27 - 1) * 2 ^ 64
top_mod e E T = omega arith

last_minus : (e f z q : ℕ) → e < 2 ^ 64 → 2 ^ 64 ≤ e + 2 ^ 27 → f + z < 2 ^ 55 → q < 2 ^ 53 → 0 < q → (f + z) % 2 ^ 64 ≡ (e * 2 ^ 27 % 2 ^ 64 + (q - 1)) % 2 ^ 64 → f + z + 1 + 2 ^ 27 * 2 ^ 64 ≡ e * 2 ^ 27 + q
last_minus e f z q E T Z Q P h =
    let l : (f + z) % 2 ^ 64 ≡ f + z = mod-eq_of_lt (omega arith) in
    let g : f + z ≡ (e * 2 ^ 27 - (2 ^ 27 - 1) * 2 ^ 64 + (q - 1)) % 2 ^ 64 = sym l ∙ h ∙ ap (λ (x : ℕ). (x + (q - 1)) % 2 ^ 64) (top_mod e E T) in
    wraps (e * 2 ^ 27) (f + z) q (omega arith) (omega arith) Z Q P g
  where
    wraps : (p s q : ℕ) → p < 2 ^ 91 → 2 ^ 91 ≤ p + 2 ^ 54 → s < 2 ^ 55 → q < 2 ^ 53 → 0 < q → s ≡ (p - (2 ^ 27 - 1) * 2 ^ 64 + (q - 1)) % 2 ^ 64 → s + 1 + 2 ^ 91 ≡ p + q
    wraps p s q a b c d e g = omega arith

-- x, y and z stand for h * h, h * l and l * l
module _ (a q x y z d e f : ℕ)
    (X : x < 2 ^ 54) (Y : y < 2 ^ 53) (Z : z < 2 ^ 52) (lo : 0 < q) (hi : q < 2 ^ 53)
    (D : (d + x) % 2 ^ 64 ≡ a) (d_small : d < 2 ^ 29)
    (E : (e + y) % 2 ^ 64 ≡ d * 2 ^ 25 % 2 ^ 64) (e-fits : e < 2 ^ 64) (e-small : (e + 2 ^ 27) % 2 ^ 64 < 2 ^ 28)
    (F : (f + z) % 2 ^ 64 ≡ (e * 2 ^ 27 % 2 ^ 64 + (q - 1)) % 2 ^ 64) (f-small : f < q * 2) where
  first : d + x ≡ a
  first = omega (arith, D, X, d_small)

  -- the second difference is e or, below zero, e - 2 ^ 64
  second : ((e < 2 ^ 27) × (e + y ≡ d * 2 ^ 25)) ⊎ ((2 ^ 64 ≤ e + 2 ^ 27) × (e + y ≡ d * 2 ^ 25 + 2 ^ 64))
  second = go (leb (2 ^ 27) e) (leb→le (2 ^ 27) e) (nleb→lt (2 ^ 27) e)
    where
      go : (b : Bool) → (T b → 2 ^ 27 ≤ e) → (T (not b) → e < 2 ^ 27) → ((e < 2 ^ 27) × (e + y ≡ d * 2 ^ 25)) ⊎ ((2 ^ 64 ≤ e + 2 ^ 27) × (e + y ≡ d * 2 ^ 25 + 2 ^ 64))
      go true g l = inr (omega (arith, g tt), omega (arith, g tt))
      go false g l = inl (l tt, omega (arith, l tt))

  third : f + z + 1 + y * 2 ^ 27 ≡ d * 2 ^ 52 + q
  third = elim second [
    | inl g ↦ plus g.1 (last_plus e f z q g.0 (omega (arith, Z, f-small, hi)) hi lo F)
    | inr g ↦ minus g.1 (last_minus e f z q e-fits g.0 (omega (arith, Z, f-small, hi)) hi lo F)
  ]
    where
      plus : e + y ≡ d * 2 ^ 25 → f + z + 1 ≡ e * 2 ^ 27 + q → f + z + 1 + y * 2 ^ 27 ≡ d * 2 ^ 52 + q
      plus g h = omega (arith, g, h)

      minus : e + y ≡ d * 2 ^ 25 + 2 ^ 64 → f + z + 1 + 2 ^ 27 * 2 ^ 64 ≡ e * 2 ^ 27 + q → f + z + 1 + y * 2 ^ 27 ≡ d * 2 ^ 52 + q
      minus g h = omega (arith, g, h)

  near_of : q * q ≡ x * 2 ^ 52 + y * 2 ^ 27 + z → NearRoot (a * 2 ^ 52) q
  near_of s = record { low = omega (arith, s, first, third); high = omega (arith, s, first, third, f-small) }

-- ---- for the code's h and l

module _ (q l : ℕ) (hi : q < 2 ^ 53) (L : l ≡ q % 2 ^ 26) where
  pub square-lt : q / 2 ^ 26 * (q / 2 ^ 26) < 2 ^ 54
  square-lt = product_lt {m = 2 ^ 27} {n = 2 ^ 27} (omega arith) (omega arith)

  pub cross-lt : q / 2 ^ 26 * l < 2 ^ 53
  cross-lt = product_lt {m = 2 ^ 27} {n = 2 ^ 26} (omega arith) (omega arith)

  pub rest_lt : l * l < 2 ^ 52
  rest_lt = product_lt {m = 2 ^ 26} {n = 2 ^ 26} (omega arith) (omega arith)

  parted : q * q ≡ q / 2 ^ 26 * (q / 2 ^ 26) * 2 ^ 52 + q / 2 ^ 26 * l * 2 ^ 27 + l * l
  parted = ap (λ (x : ℕ). x * x) (sym (split q 26) ∙ ap (λ (x : ℕ). q / 2 ^ 26 * 2 ^ 26 + x) (sym L)) ∙ open_square (q / 2 ^ 26) l
    where
      open_square : (h l : ℕ) → (h * 2 ^ 26 + l) * (h * 2 ^ 26 + l) ≡ h * h * 2 ^ 52 + h * l * 2 ^ 27 + l * l
      open_square h l = omega arith

  -- the test passed
  pub nearest_test : (a : ℕ) → a < 2 ^ 54 → 0 < q
      → let d = wrapped_sub a (q / 2 ^ 26 * (q / 2 ^ 26)) in let e = wrapped_sub (d * 2 ^ 25 % 2 ^ 64) (q / 2 ^ 26 * l) in
      d < 2 ^ 29 → (e + 2 ^ 27) % 2 ^ 64 < 2 ^ 28 → wrapped_sub ((e * 2 ^ 27 % 2 ^ 64 + (q - 1)) % 2 ^ 64) (l * l) < q * 2 → NearRoot (a * 2 ^ 52) q
  nearest_test a A lo d_small e-small f-small =
      near_of a q (q / 2 ^ 26 * (q / 2 ^ 26)) (q / 2 ^ 26 * l) (l * l) _ _ _ square-lt cross-lt rest_lt lo hi
      (wrapped_back a _ (omega arith) (omega (arith, square-lt))) d_small
      (wrapped_back _ _ (mod-lt _ (omega arith)) (omega (arith, cross-lt))) (mod-lt _ (omega arith)) e-small
      (wrapped_back _ _ (mod-lt _ (omega arith)) (omega (arith, rest_lt))) f-small parted
