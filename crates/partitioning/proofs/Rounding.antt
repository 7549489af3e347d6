-- Rounding to 53 digits, in whole numbers of units: what a place inside an interval, worked out by its fraction, cannot pass. Nothing here is about a section. Assumes nothing.
use mathlib.Core.Path.{◌≡◌, refl, sym, ap, ◌∙◌}
use mathlib.Core.Logic.{◌⊎◌, inl, inr, ⊎_elim}
use mathlib.Core.Bool.{Bool, true, false}
use Prim.Native.Nat.{ℕ, zero, suc, ◌+◌, ◌-◌, ◌*◌, ◌/◌, ◌%◌, ◌^◌, ◌≤◌, ◌<◌, compare, Ordering}
use native.Mathlib.Nat.{div-mul-le_self, lt_of_mul-lt-mul_right, le_trans, le_of_eq, lt_of_lt_of_le, lt_of_le_of_lt, mul_assoc, mul-le-mul_right, mul-le-mul_left, mul-pos, div-one, mod-one, div-add-mod', le-div_iff_mul-le, div-lt_iff_lt-mul, one-mul, mul-lt-mul_of_pos_right, mul-lt-mul_of_pos_left, div-div-eq-div-mul, pow-succ'}
use native.Mathlib.Omega.{arith}
use borrow.Author.Tests.{ltb-true, ltb-false}
use lib.Dec.{ltb, eqb→eq, le→leb}
use lib.Pow.{pow_pos, pow_mono, pow-add, shl_lt}
use lib.Ieee.{size, nearest}
use lib.Ieee.Digits.{back, size-lt, size-le, size_reaches}
use lib.Ieee.Fits.{nearest-le, kept-lt}
use lib.Ieee.Nearest.{div_same, div_mono, closest, closest_mono, closest_same, nearest-ge}
use lib.Ieee.Order.{drop, kept}

-- ---- to the nearest whole number

closest_whole : (y : ℕ) → closest y 1 ≡ y
closest_whole y = rw (div-one y, mod-one y)

module _ (a b g : ℕ) (B : 0 < b) (h : 2 * a < (2 * g + 1) * b) where
  split : a / b * b + a % b ≡ a
  split = div-add-mod' a b

  -- the whole part is g at most
  whole_most : a / b ≤ g
  whole_most = go (ltb g (a / b)) refl
    where
      go : (t : Bool) → ltb g (a / b) ≡ t → a / b ≤ g
      go false e = ltb-false g (a / b) e
      go true e =
          let more : (g + 1) * b ≤ a / b * b = mul-le-mul_right b (omega (arith, ltb-true g (a / b) e)) in
          absurd (omega (arith, more, split, h))

  -- below a half it is rounded down
  closest_half : closest a b ≤ g
  closest_half = go (ltb (a / b) g) refl (compare (a % b * 2) b) refl
    where
      go : (t : Bool) → ltb (a / b) g ≡ t → (o : Ordering) → compare (a % b * 2) b ≡ o → nearest (a / b) o ≤ g
      go true e o c = omega (arith, nearest-le (a / b) o, ltb-true (a / b) g e)
      go false e Ordering.lt c = whole_most
      go false e Ordering.eq c =
          let same : a / b ≡ g = omega (arith, whole_most, ltb-false (a / b) g e) in
          let tie : a % b * 2 ≡ b = eqb→eq (a % b * 2) b (rw c tt) in
          absurd (omega (arith, tie, split, h, ap (λ (z : ℕ). z * b) same))
      go false e Ordering.gt c =
          let same : a / b ≡ g = omega (arith, whole_most, ltb-false (a / b) g e) in
          let less : a % b * 2 ≤ b = omega (arith, split, h, ap (λ (z : ℕ). z * b) same) in
          absurd (rw c at (le→leb (a % b * 2) b less))

-- ---- n / c, rounded to 53 digits

abbrev pub rounded : ℕ → ℕ → ℕ
rounded n c = kept 53 n c * 2 ^ drop 53 n c

-- how many digits are dropped
abbrev dropped : ℕ → ℕ → ℕ
dropped n c = drop 53 n c

-- the whole part, without the digits dropped
whole_part : (n c k : ℕ) → n / (c * 2 ^ k) ≡ n / c / 2 ^ k
whole_part n c k = sym (div-div-eq-div-mul n c (2 ^ k))

-- no more than 53 digits are kept
kept-most : (n c : ℕ) → kept 53 n c ≤ 2 ^ 53
kept-most n c =
    let k = drop 53 n c in
    let u = c * 2 ^ k in
    le_trans (nearest-le (n / u) (compare (n % u * 2) u)) (rw (whole_part n c k) (kept-lt 53 (n / c)))

-- what lies below 2 ^ (53 + k) drops k digits at most
drop-most : (n c k : ℕ) → 0 < c → n < 2 ^ (53 + k) * c → drop 53 n c ≤ k
drop-most n c k C h = omega (arith, size-le (n / c) (53 + k) ((div-lt_iff_lt-mul C).1 h))

-- where fewer digits than k are dropped, the result is 2 ^ 52 of that unit at most
few_dropped : (n c k : ℕ) → drop 53 n c < k → rounded n c ≤ 2 ^ 52 * 2 ^ k
few_dropped n c k h =
    let j = drop 53 n c in
    let twice : 2 ^ suc j ≡ 2 * 2 ^ j = pow-succ' 2 j in
    let up : 2 ^ suc j ≤ 2 ^ k = pow_mono h in
    le_trans (mul-le-mul_right (2 ^ j) (kept-most n c)) (le_trans (omega (arith, twice)) (mul-le-mul_left (2 ^ 52) up))

-- A number that has 53 digits is not passed from below.
pub not_passed : (n c a j : ℕ) → 0 < c → a < 2 ^ 53 → n ≤ a * 2 ^ j * c → rounded n c ≤ a * 2 ^ j
not_passed n c a j C few h =
    let k = drop 53 n c in
    let small : n < 2 ^ (53 + j) * c = lt_of_le_of_lt h (mul-lt-mul_of_pos_right (shl_lt 53 j few) C) in
    let kj : k ≤ j = drop-most n c j C small in
    let y = a * 2 ^ (j - k) in
    let e : y * 2 ^ k ≡ a * 2 ^ j = mul_assoc a (2 ^ (j - k)) (2 ^ k) ∙ ap (λ (z : ℕ). a * z) (sym (pow-add 2 (j - k) k) ∙ ap (λ (z : ℕ). 2 ^ z) (back j k kj)) in
    let m : n * 1 ≤ y * (c * 2 ^ k) = omega (arith, h, ap (λ (z : ℕ). z * c) e) in
    let low : closest n (c * 2 ^ k) ≤ y = le_trans (closest_mono n (c * 2 ^ k) y 1 (mul-pos C (pow_pos k)) (omega arith) m) (le_of_eq (closest_whole y)) in
    le_trans (mul-le-mul_right (2 ^ k) low) (le_of_eq e)

-- and it is not changed.
pub rounded_exact : (c a j : ℕ) → 0 < c → a < 2 ^ 53 → rounded (a * 2 ^ j * c) c ≡ a * 2 ^ j
rounded_exact c a j C few =
    let n = a * 2 ^ j * c in
    let k = drop 53 n c in
    let kj : k ≤ j = drop-most n c j C (mul-lt-mul_of_pos_right (shl_lt 53 j few) C) in
    let y = a * 2 ^ (j - k) in
    let e : y * 2 ^ k ≡ a * 2 ^ j = mul_assoc a (2 ^ (j - k)) (2 ^ k) ∙ ap (λ (z : ℕ). a * z) (sym (pow-add 2 (j - k) k) ∙ ap (λ (z : ℕ). 2 ^ z) (back j k kj)) in
    let m : n * 1 ≡ y * (c * 2 ^ k) = omega (arith, ap (λ (z : ℕ). z * c) e) in
    ap (λ (z : ℕ). z * 2 ^ k) (closest_same n (c * 2 ^ k) y 1 (mul-pos C (pow_pos k)) (omega arith) m ∙ closest_whole y) ∙ e

-- equal fractions
pub rounded_same : (a b c d : ℕ) → 0 < b → 0 < d → a * d ≡ c * b → rounded a b ≡ rounded c d
rounded_same a b c d B D e =
    let k : drop 53 a b ≡ drop 53 c d = ap (λ (z : ℕ). size z - 53) (div_same a b c d B D e) in
    let j = drop 53 c d in
    let y : a * (d * 2 ^ j) ≡ c * (b * 2 ^ j) = omega (arith, ap (λ (z : ℕ). z * 2 ^ j) e) in
    ap (λ (z : ℕ). closest a (b * 2 ^ z) * 2 ^ z) k ∙ ap (λ (z : ℕ). z * 2 ^ j) (closest_same a (b * 2 ^ j) c (d * 2 ^ j) (mul-pos B (pow_pos j)) (mul-pos D (pow_pos j)) y)

-- ---- a whole number K, rounded

module _ (K : ℕ) where
  abbrev digits : ℕ
  digits = drop 53 K 1

  abbrev unit : ℕ
  unit = 1 * 2 ^ drop 53 K 1

  unit_pos : 0 < 1 * 2 ^ drop 53 K 1
  unit_pos = mul-pos (omega arith) (pow_pos (drop 53 K 1))

  whole_below : K / (1 * 2 ^ drop 53 K 1) * 2 ^ drop 53 K 1 ≤ K
  whole_below = omega (arith, div-mul-le_self K (1 * 2 ^ drop 53 K 1), one-mul (2 ^ drop 53 K 1), ap (λ (z : ℕ). K / (1 * 2 ^ drop 53 K 1) * z) (one-mul (2 ^ drop 53 K 1)))

  whole_few : K / (1 * 2 ^ drop 53 K 1) < 2 ^ 53
  whole_few = rw (whole_part K 1 (drop 53 K 1)) (kept-lt 53 (K / 1))

  -- where digits are dropped, 53 are left
  reaches : 0 < drop 53 K 1 → 2 ^ (52 + drop 53 K 1) ≤ K
  reaches h = le_trans (size_reaches (K / 1) (52 + drop 53 K 1) (omega (arith, h))) (le_of_eq (div-one K))

  whole_least : 0 < drop 53 K 1 → 2 ^ 52 ≤ K / (1 * 2 ^ drop 53 K 1)
  whole_least h =
      (le-div_iff_mul-le unit_pos).1
      (le_trans (le_of_eq (ap (λ (z : ℕ). 2 ^ 52 * z) (one-mul (2 ^ drop 53 K 1)) ∙ sym (pow-add 2 52 (drop 53 K 1)))) (reaches h))

  -- rounded down or not at all
  module _ (h : rounded K 1 ≤ K) where
    down-kept : kept 53 K 1 < 2 ^ 53
    down-kept =
        lt_of_le_of_lt
        ((le-div_iff_mul-le unit_pos).1 (le_trans (le_of_eq (ap (λ (z : ℕ). kept 53 K 1 * z) (one-mul (2 ^ drop 53 K 1)))) h))
        whole_few

  -- rounded up
  module _ (h : K < rounded K 1) where
    up_kept : kept 53 K 1 ≡ K / (1 * 2 ^ drop 53 K 1) + 1
    up_kept =
        let u = 1 * 2 ^ drop 53 K 1 in
        let o = compare (K % u * 2) u in
        go (ltb (K / u) (kept 53 K 1)) refl (nearest-le (K / u) o)
      where
        go : (t : Bool) → ltb (K / (1 * 2 ^ drop 53 K 1)) (kept 53 K 1) ≡ t → kept 53 K 1 ≤ suc (K / (1 * 2 ^ drop 53 K 1)) → kept 53 K 1 ≡ K / (1 * 2 ^ drop 53 K 1) + 1
        go true e n = omega (arith, ltb-true (K / (1 * 2 ^ drop 53 K 1)) (kept 53 K 1) e, n)
        go false e n = absurd (omega (arith, mul-le-mul_right (2 ^ drop 53 K 1) (ltb-false (K / (1 * 2 ^ drop 53 K 1)) (kept 53 K 1) e), whole_below, h))

    -- digits are dropped
    up_drops : 0 < drop 53 K 1
    up_drops = go (drop 53 K 1) refl
      where
        go : (k : ℕ) → drop 53 K 1 ≡ k → 0 < drop 53 K 1
        go (suc k) e = omega (arith, e)
        go zero e =
            let same : rounded K 1 ≡ K = ap (λ (z : ℕ). closest K (1 * 2 ^ z) * 2 ^ z) e ∙ omega (arith, closest_whole K) in
            absurd (omega (arith, same, h))

-- what is not zero is not rounded to zero
pub rounded_pos : (K : ℕ) → 0 < K → 0 < rounded K 1
rounded_pos K h = go (drop 53 K 1) refl
  where
    go : (k : ℕ) → drop 53 K 1 ≡ k → 0 < rounded K 1
    go zero e = let same : rounded K 1 ≡ K = ap (λ (z : ℕ). closest K (1 * 2 ^ z) * 2 ^ z) e ∙ omega (arith, closest_whole K) in omega (arith, same, h)
    go (suc k) e =
        let u = 1 * 2 ^ drop 53 K 1 in
        let some : 2 ^ 52 ≤ kept 53 K 1 = le_trans (whole_least K (omega (arith, e))) (nearest-ge (K / u) (compare (K % u * 2) u)) in
        mul-pos (omega (arith, some)) (pow_pos (drop 53 K 1))

-- ---- two of them

drop-order : (K₀ K : ℕ) → K₀ ≤ K → drop 53 K₀ 1 ≤ drop 53 K 1
drop-order K₀ K h = omega (arith, size-le (K₀ / 1) (size (K / 1)) (lt_of_le_of_lt (div_mono K₀ 1 K 1 (omega arith) (omega arith) (omega (arith, h))) (size-lt (K / 1))))

same_or_fewer : (a b : ℕ) → a ≤ b → (a ≡ b) ⊎ (a < b)
same_or_fewer a b h = go (ltb a b) refl
  where
    go : (t : Bool) → ltb a b ≡ t → (a ≡ b) ⊎ (a < b)
    go true e = inr (ltb-true a b e)
    go false e = inl (omega (arith, h, ltb-false a b e))

pub rounded_order : (K₀ K : ℕ) → K₀ ≤ K → rounded K₀ 1 ≤ rounded K 1
rounded_order K₀ K h = ⊎_elim same fewer (same_or_fewer (drop 53 K₀ 1) (drop 53 K 1) (drop-order K₀ K h))
  where
    same : drop 53 K₀ 1 ≡ drop 53 K 1 → rounded K₀ 1 ≤ rounded K 1
    same e =
        le_trans (le_of_eq (ap (λ (z : ℕ). closest K₀ (1 * 2 ^ z) * 2 ^ z) e))
        (mul-le-mul_right (2 ^ drop 53 K 1) (closest_mono K₀ (1 * 2 ^ drop 53 K 1) K (1 * 2 ^ drop 53 K 1) (unit_pos K) (unit_pos K) (mul-le-mul_right (1 * 2 ^ drop 53 K 1) h)))

    fewer : drop 53 K₀ 1 < drop 53 K 1 → rounded K₀ 1 ≤ rounded K 1
    fewer l =
        let u = 1 * 2 ^ drop 53 K 1 in
        le_trans (few_dropped K₀ 1 (drop 53 K 1) l)
        (mul-le-mul_right (2 ^ drop 53 K 1) (le_trans (whole_least K (omega (arith, l))) (nearest-ge (K / u) (compare (K % u * 2) u))))

-- a number of 53 digits that is 2 ^ (52 + k) or more is a multiple of 2 ^ k
pub record Multiple (W k : ℕ) : Type 0 where
  pub times : ℕ
  pub is : W ≡ times * 2 ^ k

multiple : (a j W k : ℕ) → a < 2 ^ 53 → W ≡ a * 2 ^ j → 2 ^ (52 + k) ≤ W → Multiple W k
multiple a j W k few e h = go (ltb j k) refl
  where
    go : (t : Bool) → ltb j k ≡ t → Multiple W k
    go true f =
        let small : a * 2 ^ j < 2 ^ (53 + j) = shl_lt 53 j few in
        let up : 2 ^ (53 + j) ≤ 2 ^ (52 + k) = pow_mono (omega (arith, ltb-true j k f)) in
        absurd (omega (arith, small, up, h, e))
    go false f =
        let kj : k ≤ j = ltb-false j k f in
        record {
          times = a * 2 ^ (j - k);
          is = e ∙ sym (mul_assoc a (2 ^ (j - k)) (2 ^ k) ∙ ap (λ (z : ℕ). a * z) (sym (pow-add 2 (j - k) k) ∙ ap (λ (z : ℕ). 2 ^ z) (back j k kj)));
        }

half_of : (X Q v : ℕ) → X ≤ (2 ^ 53 - 1) * (Q + v) → 2 ^ 52 * v ≤ Q → 0 < v → 2 * X < 2 ^ 53 * (2 * Q + v)
half_of X Q v h k p = omega arith

product_of : (D q t J : ℕ) → D ≡ (q + 1) * t → D * ((2 ^ 53 - 1) * J) ≡ (2 ^ 53 - 1) * (q * (t * J) + t * J)
product_of D q t J is = omega (arith, ap (λ (z : ℕ). z * J) is)

units_of : (q t J : ℕ) → 2 ^ 53 * (2 * (q * (t * J)) + t * J) ≡ (2 * q + 1) * (2 ^ 53 * J * t)
units_of q t J = omega arith

-- a way of q + 1 units by a fraction below one, with q at least 2 ^ 52, is rounded to q units at most
way_down : (D F q k i : ℕ) → D ≡ (q + 1) * 2 ^ k → F ≤ (2 ^ 53 - 1) * 2 ^ i → 2 ^ 52 ≤ q → q < 2 ^ 53 → rounded (D * F) (2 ^ 53 * 2 ^ i) ≤ q * 2 ^ k
way_down D F q k i is less least few =
    let C : 0 < 2 ^ 53 * 2 ^ i = mul-pos (pow_pos 53) (pow_pos i) in
    let most : D ≤ 2 ^ (53 + k) = le_trans (le_of_eq is) (le_trans (mul-le-mul_right (2 ^ k) (omega (arith, few))) (le_of_eq (sym (pow-add 2 53 k)))) in
    let above : 0 < D = lt_of_lt_of_le (mul-pos (omega arith) (pow_pos k)) (le_of_eq (sym is)) in
    let below : F < 2 ^ 53 * 2 ^ i = lt_of_le_of_lt less (mul-lt-mul_of_pos_right (omega arith) (pow_pos i)) in
    let small : D * F < 2 ^ (53 + k) * (2 ^ 53 * 2 ^ i) = lt_of_lt_of_le (mul-lt-mul_of_pos_left below above) (mul-le-mul_right (2 ^ 53 * 2 ^ i) most) in
    let half : 2 * (D * F) < (2 * q + 1) * (2 ^ 53 * 2 ^ i * 2 ^ k) =
    lt_of_lt_of_le
    (half_of (D * F) (q * (2 ^ k * 2 ^ i)) (2 ^ k * 2 ^ i) (le_trans (mul-le-mul_left D less) (le_of_eq (product_of D q (2 ^ k) (2 ^ i) is))) (mul-le-mul_right (2 ^ k * 2 ^ i) least) (mul-pos (pow_pos k) (pow_pos i)))
    (le_of_eq (units_of q (2 ^ k) (2 ^ i)))
    in
    ⊎_elim
    (λ e. le_trans (le_of_eq (ap (λ (z : ℕ). closest (D * F) (2 ^ 53 * 2 ^ i * 2 ^ z) * 2 ^ z) e)) (mul-le-mul_right (2 ^ k) (closest_half (D * F) (2 ^ 53 * 2 ^ i * 2 ^ k) q (mul-pos C (pow_pos k)) half)))
    (λ l. le_trans (few_dropped (D * F) (2 ^ 53 * 2 ^ i) k l) (mul-le-mul_right (2 ^ k) least))
    (same_or_fewer (drop 53 (D * F) (2 ^ 53 * 2 ^ i)) k (drop-most (D * F) (2 ^ 53 * 2 ^ i) k C small))

-- ---- a place inside an interval: M is where it begins, M + K where it ends, and M + K₀ is the place; all three have 53 digits

module _ (M K K₀ a j a₀ j₀ : ℕ) (few : a < 2 ^ 53) (end : M + K ≡ a * 2 ^ j) (few₀ : a₀ < 2 ^ 53) (place : M + K₀ ≡ a₀ * 2 ^ j₀) (inside : K₀ < K) where
  -- with J * 2 ^ 53 units to one
  module _ (i : ℕ) where
    abbrev U : ℕ
    U = 2 ^ 53 * 2 ^ i

    abbrev D : ℕ
    D = rounded K 1

    abbrev X : ℕ
    X = rounded K₀ 1

    U_pos : 0 < 2 ^ 53 * 2 ^ i
    U_pos = mul-pos (pow_pos 53) (pow_pos i)

    -- the fraction, and the way that it stands for
    abbrev F : ℕ
    F = rounded (X * U) D

    abbrev P : ℕ
    P = rounded (D * F) U

    X_most : rounded K₀ 1 ≤ rounded K 1
    X_most = rounded_order K₀ K (omega (arith, inside))

    -- where the length is rounded up, the place is a unit or more before the end
    module _ (up : K < rounded K 1) where
      abbrev k : ℕ
      k = drop 53 K 1

      abbrev q : ℕ
      q = K / (1 * 2 ^ drop 53 K 1)

      up_is : rounded K 1 ≡ (K / (1 * 2 ^ drop 53 K 1) + 1) * 2 ^ drop 53 K 1
      up_is = ap (λ (z : ℕ). z * 2 ^ drop 53 K 1) (up_kept K up)

      least : 2 ^ 52 * 2 ^ drop 53 K 1 ≤ K / (1 * 2 ^ drop 53 K 1) * 2 ^ drop 53 K 1
      least = mul-le-mul_right (2 ^ drop 53 K 1) (whole_least K (up_drops K up))

      -- with as many digits dropped
      apart : drop 53 K₀ 1 ≡ drop 53 K 1 → K₀ + 2 ^ drop 53 K 1 ≤ K
      apart e =
          let low : 2 ^ (52 + drop 53 K 1) ≤ K₀ = rw (← e) (reaches K₀ (omega (arith, e, up_drops K up))) in
          let m₀ = multiple a₀ j₀ (M + K₀) (drop 53 K 1) few₀ place (omega (arith, low)) in
          let m = multiple a j (M + K) (drop 53 K 1) few end (omega (arith, low, inside)) in
          let less : m₀.times < m.times = lt_of_mul-lt-mul_right (2 ^ drop 53 K 1) (omega (arith, m₀.is, m.is, inside)) in
          let step : (m₀.times + 1) * 2 ^ drop 53 K 1 ≤ m.times * 2 ^ drop 53 K 1 = mul-le-mul_right (2 ^ drop 53 K 1) (omega (arith, less)) in
          omega (arith, step, m₀.is, m.is)

      X_less : rounded K₀ 1 ≤ K / (1 * 2 ^ drop 53 K 1) * 2 ^ drop 53 K 1
      X_less = ⊎_elim same fewer (same_or_fewer (drop 53 K₀ 1) (drop 53 K 1) (drop-order K₀ K (omega (arith, inside))))
        where
          same : drop 53 K₀ 1 ≡ drop 53 K 1 → rounded K₀ 1 ≤ K / (1 * 2 ^ drop 53 K 1) * 2 ^ drop 53 K 1
          same e =
              let u = 1 * 2 ^ drop 53 K 1 in
              let one : 1 * 2 ^ drop 53 K 1 ≡ 2 ^ drop 53 K 1 = one-mul (2 ^ drop 53 K 1) in
              let next : K₀ / u + 1 ≤ K / u = (le-div_iff_mul-le (unit_pos K)).1 (omega (arith, div-mul-le_self K₀ u, apart e, one)) in
              le_trans (le_of_eq (ap (λ (z : ℕ). closest K₀ (1 * 2 ^ z) * 2 ^ z) e))
              (mul-le-mul_right (2 ^ drop 53 K 1) (le_trans (nearest-le (K₀ / u) (compare (K₀ % u * 2) u)) (omega (arith, next))))

          fewer : drop 53 K₀ 1 < drop 53 K 1 → rounded K₀ 1 ≤ K / (1 * 2 ^ drop 53 K 1) * 2 ^ drop 53 K 1
          fewer l = le_trans (few_dropped K₀ 1 (drop 53 K 1) l) least

      -- so the fraction is below one
      F_less : rounded (rounded K₀ 1 * (2 ^ 53 * 2 ^ i)) (rounded K 1) ≤ (2 ^ 53 - 1) * 2 ^ i
      F_less =
          let t = 2 ^ drop 53 K 1 in
          let room : (K / (1 * t) + 1) * t ≤ 2 ^ 53 * t = mul-le-mul_right t (omega (arith, whole_few K)) in
          let less : rounded K₀ 1 * 2 ^ 53 ≤ (2 ^ 53 - 1) * rounded K 1 = omega (arith, X_less, up_is, room) in
          not_passed (rounded K₀ 1 * (2 ^ 53 * 2 ^ i)) (rounded K 1) (2 ^ 53 - 1) i (omega (arith, up)) (omega arith)
          (omega (arith, mul-le-mul_right (2 ^ i) less))

      -- and the way is rounded down
      P_less : rounded (rounded K 1 * rounded (rounded K₀ 1 * (2 ^ 53 * 2 ^ i)) (rounded K 1)) (2 ^ 53 * 2 ^ i) ≤ K / (1 * 2 ^ drop 53 K 1) * 2 ^ drop 53 K 1
      P_less = way_down (rounded K 1) (rounded (rounded K₀ 1 * (2 ^ 53 * 2 ^ i)) (rounded K 1)) (K / (1 * 2 ^ drop 53 K 1)) (drop 53 K 1) i up_is F_less (whole_least K (up_drops K up)) (whole_few K)

    -- the way never passes the end, however the length was rounded
    pub way_inside : rounded (rounded K 1 * rounded (rounded K₀ 1 * (2 ^ 53 * 2 ^ i)) (rounded K 1)) (2 ^ 53 * 2 ^ i) ≤ K
    way_inside = go (ltb K (rounded K 1)) refl
      where
        go : (t : Bool) → ltb K (rounded K 1) ≡ t → rounded (rounded K 1 * rounded (rounded K₀ 1 * (2 ^ 53 * 2 ^ i)) (rounded K 1)) (2 ^ 53 * 2 ^ i) ≤ K
        go true e = let up = ltb-true K (rounded K 1) e in le_trans (P_less up) (whole_below K)
        go false e =
            let down = ltb-false K (rounded K 1) e in
            let power : 1 * 2 ^ (53 + i) ≡ 2 ^ 53 * 2 ^ i = one-mul (2 ^ (53 + i)) ∙ pow-add 2 53 i in
            let one : rounded (rounded K₀ 1 * (2 ^ 53 * 2 ^ i)) (rounded K 1) ≤ 1 * 2 ^ (53 + i) =
            not_passed (rounded K₀ 1 * (2 ^ 53 * 2 ^ i)) (rounded K 1) 1 (53 + i) (rounded_pos K (omega (arith, inside))) (omega arith)
            (omega (arith, mul-le-mul_right (2 ^ 53 * 2 ^ i) X_most, ap (λ (z : ℕ). z * rounded K 1) power))
            in
            le_trans
            (not_passed (rounded K 1 * rounded (rounded K₀ 1 * (2 ^ 53 * 2 ^ i)) (rounded K 1)) (2 ^ 53 * 2 ^ i) (kept 53 K 1) (drop 53 K 1) U_pos (down-kept K down)
            (mul-le-mul_left (rounded K 1) (le_trans one (le_of_eq power))))
            down
