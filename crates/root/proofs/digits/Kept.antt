-- The root of N rounded to p = d + 1 digits. s is its whole part, q the leading digits of s that are kept, k how many are dropped: the root lies between q * 2 ^ k and (q + 1) * 2 ^ k.
-- No number of p digits and zeros behind them lies between those two, and the root isn't their middle. Numbers only, no floats. Assumes nothing.
use Rattle.std.proofs.Common.{◌≡◌, ℕ, suc, ◌+◌, ◌-◌, ◌*◌, ◌/◌, ◌%◌, ◌^◌, ◌<◌, ◌≤◌, not, T, sym, ap, ◌∙◌, subst, le_trans, le_of_eq, le_refl, lt_of_lt_of_le, le_of_suc-le-suc, lt_of_le_of_lt, le_of_lt, lt_irrefl, mul-le-mul_right, mul_assoc, div-lt_iff_lt-mul, mul-le-mul, lt_of_mul-lt-mul_right, mul-pos, lt_of_not-le, le-div_iff_mul-le, not-le_of_lt, div-mul-le_self, arith, eqb→eq, leb→le, pow_pos, pow_mono, pow-add}
use Prim.Native.Nat.{compare, Ordering}
use native.Mathlib.Nat.{mul-mul-mul_comm, pow-succ'}
use native.Mathlib.Decide.{dec_le}
use lib.Dec.{is_le, compare_is_eq, nleb→lt}
use lib.Arith.{lt_of_le-ne}
use lib.Ieee.{size, nearest}
use lib.Ieee.Digits.{size-le, size_reaches, back}
use lib.Ieee.Fits.{kept-lt, nearest-le}
use Rattle.root.specs.Sqrt.{IsRoot}
use Rattle.root.specs.Nearest.{SidePlus}
use Rattle.root.proofs.digits.Units.{Short, odd_pow}

-- ---- which side of the middle

pub sq_lt : {a b : ℕ} → a < b → a * a < b * b
sq_lt {a} {b} h = omega (arith, mul-le-mul h h)

lower : (N A B Y : ℕ) → A * A ≤ N → 4 * N < (A + B) * (A + B) → (A < Y → B ≤ Y) → SidePlus N A Y
lower N A B Y below mid gap =
    (λ h. lt_of_lt_of_le mid (square_le (gap h)), λ h. omega (arith, sq_lt (half h)))
  where
    square_le : B ≤ Y → (A + B) * (A + B) ≤ (A + Y) * (A + Y)
    square_le h = mul-le-mul {n₁ = A + B} {m₁ = A + B} (omega arith) (omega arith)

    half : Y < A → A + Y < 2 * A
    half h = omega arith

upper : (N A B Y : ℕ) → N < B * B → (A + B) * (A + B) < 4 * N → (A < Y → B ≤ Y) → SidePlus N B Y
upper N A B Y above mid gap =
    (λ h. omega (arith, sq_lt (half h)), λ h. lt_of_le_of_lt (square_le (le_of_suc-le-suc (lt_of_not-le (λ (g : A < Y). not-le_of_lt h (gap g))))) mid)
  where
    half : B < Y → 2 * B < B + Y
    half h = omega arith

    square_le : Y ≤ A → (B + Y) * (B + Y) ≤ (A + B) * (A + B)
    square_le h = mul-le-mul {n₁ = B + Y} {m₁ = B + Y} (omega arith) (omega arith)

-- ---- no such number lies between q * 2 ^ k and (q + 1) * 2 ^ k, where q has all d + 1 digits or nothing is dropped

gap : (d k q Y : ℕ) → (0 < k → 2 ^ d ≤ q) → Short (suc d) Y → q * 2 ^ k < Y → suc q * 2 ^ k ≤ Y
gap d k q Y full y h = elim (dec_le k j) [ yes g ↦ whole g | no g ↦ absurd (lt_irrefl (q * 2 ^ k) (lt_of_lt_of_le h (far (lt_of_not-le g)))) ]
  where
    j : ℕ
    j = y.zeros

    a : ℕ
    a = y.digits

    -- it is a multiple of 2 ^ k
    whole : k ≤ j → suc q * 2 ^ k ≤ Y
    whole g =
        let e : Y ≡ a * 2 ^ (j - k) * 2 ^ k = y.is ∙ ap (λ (x : ℕ). a * 2 ^ x) (sym (back j k g)) ∙ ap (λ (x : ℕ). a * x) (pow-add 2 (j - k) k) ∙ sym (mul_assoc a (2 ^ (j - k)) (2 ^ k)) in
        subst (λ (x : ℕ). suc q * 2 ^ k ≤ x) (sym e) (mul-le-mul_right (2 ^ k) (lt_of_mul-lt-mul_right (2 ^ k) (subst (λ (x : ℕ). q * 2 ^ k < x) e h)))

    -- or it is below q * 2 ^ k
    far : j < k → Y ≤ q * 2 ^ k
    far g =
        le_trans (le_of_eq y.is)
        (le_trans (mul-le-mul_right (2 ^ j) (le_of_lt y.short))
        (le_trans (le_of_eq (sym (pow-add 2 (suc d) j)))
        (le_trans (pow_mono {i = suc d + j} {j = d + k} (omega arith))
        (le_trans (le_of_eq (pow-add 2 d k)) (mul-le-mul_right (2 ^ k) (full (omega arith)))))))

-- ---- the root isn't the middle: the square of twice the middle is a power of four times an odd number of more than d + 1 digits

odd-square : (q : ℕ) → (2 * q + 1) * (2 * q + 1) % 2 ≡ 1
odd-square q = omega arith

no_tie : (d q k m j : ℕ) → m % 2 ≡ 1 → m < 2 ^ suc d → 0 < j → (0 < k → 2 ^ d ≤ q) → m * 2 ^ j ≡ (2 * q + 1) * 2 ^ k * ((2 * q + 1) * 2 ^ k) → ⊥
no_tie d q k m j o short J full e =
    let c = 2 * q + 1 in
    let f : m * 2 ^ j ≡ c * c * 2 ^ (k + k) = e ∙ mul-mul-mul_comm c (2 ^ k) c (2 ^ k) ∙ ap (λ (x : ℕ). c * c * x) (sym (pow-add 2 k k)) in
    let r = odd_pow m (c * c) j (k + k) o (odd-square q) f in
    let g = full (omega (arith, r.1)) in
    omega (arith, r.0, pow-succ' 2 d, g)

-- ---- the rounded root

-- how many digits of s are dropped, and what the others say
abbrev pub dropped : ℕ → ℕ → ℕ
dropped d s = size s - suc d

abbrev pub kept : ℕ → ℕ → ℕ
kept d s = s / 2 ^ dropped d s

-- twice the middle of the two numbers on either side of the root
abbrev pub middle : ℕ → ℕ → ℕ
middle d s = (2 * kept d s + 1) * 2 ^ dropped d s

-- the kept digits, or one more
abbrev pub leading : ℕ → ℕ → ℕ → ℕ
leading d N s = nearest (kept d s) (compare (4 * N) (middle d s * middle d s))

-- R is on the root's side of its middle with any other number of p digits, and with any number at or below zero
pub record Rounded (p N R : ℕ) : Type 0 where
  pub plus : (Y : ℕ) → Short p Y → SidePlus N R Y
  pub minus : R * R < 4 * N

module _ (d N s : ℕ) (root : IsRoot N s) where
  k : ℕ
  k = dropped d s

  q : ℕ
  q = kept d s

  -- where digits are dropped, d + 1 are kept
  full : 0 < k → 2 ^ d ≤ q
  unfolding k q
  full h = (le-div_iff_mul-le (pow_pos k)).1 (le_trans (le_of_eq (sym (pow-add 2 d k))) (size_reaches s (d + k) (omega arith)))

  -- the two numbers on either side of the root
  under_root : q * 2 ^ k * (q * 2 ^ k) ≤ N
  unfolding k q
  under_root = le_trans (mul-le-mul (div-mul-le_self s (2 ^ k)) (div-mul-le_self s (2 ^ k))) root.below

  over_root : N < suc q * 2 ^ k * (suc q * 2 ^ k)
  unfolding k q
  over_root =
      let h : suc s ≤ suc q * 2 ^ k = (div-lt_iff_lt-mul (pow_pos k)).0 (le_refl (suc q)) in
      lt_of_lt_of_le root.above (mul-le-mul h h)

  -- where 4 * N is an odd number m of at most d + 1 digits with j zeros behind it
  pub rounded : (m j : ℕ) → m % 2 ≡ 1 → m < 2 ^ suc d → 0 < j → 4 * N ≡ m * 2 ^ j → Rounded (suc d) N (leading d N s * 2 ^ dropped d s)
  unfolding k q
  rounded m j odd short J is = go (compare (4 * N) M) (leb→le (4 * N) M) (nleb→lt (4 * N) M) (λ t. tie (eqb→eq (4 * N) M t))
    where
      A : ℕ
      A = q * 2 ^ k

      B : ℕ
      B = suc q * 2 ^ k

      M : ℕ
      M = middle d s * middle d s

      M_is : M ≡ (A + B) * (A + B)
      M_is = omega arith

      tie : 4 * N ≡ M → ⊥
      tie e = no_tie d q k m j odd short J full (sym is ∙ e)

      pos : 0 < 4 * N
      pos = subst (λ (x : ℕ). 0 < x) (sym is) (mul-pos {m = m} (omega arith) (pow_pos j))

      go : (o : Ordering) → (T (is_le o) → 4 * N ≤ M) → (T (not (is_le o)) → M < 4 * N) → (T (compare_is_eq o) → ⊥) → Rounded (suc d) N (nearest q o * 2 ^ k)
      go Ordering.lt le gt eq = record {
        plus = λ Y y. lower N A B Y under_root (rw M_is at (lt_of_le-ne (le tt) tie)) (gap d k q Y full y);
        minus = omega (arith, under_root, pos);
      }
      go Ordering.eq le gt eq = absurd (eq tt)
      go Ordering.gt le gt eq = record {
        plus = λ Y y. upper N A B Y over_root (rw M_is at (gt tt)) (gap d k q Y full y);
        minus = omega (arith, rw M_is at (gt tt));
      }

  pub leading_le : leading d N s ≤ 2 ^ suc d
  leading_le = le_trans (nearest-le (kept d s) (compare (4 * N) (middle d s * middle d s))) (kept-lt (suc d) s)

  pub rounded_le : (c : ℕ) → suc d ≤ c → N < 2 ^ (c + c) → leading d N s * 2 ^ dropped d s ≤ 2 ^ c
  rounded_le c h g =
      let root-lt : s < 2 ^ c = lt_of_not-le (λ (f : 2 ^ c ≤ s). not-le_of_lt g (le_trans (le_of_eq (pow-add 2 c c)) (le_trans (mul-le-mul f f) root.below))) in
      let digits : suc d + dropped d s ≤ c = omega (arith, size-le s c root-lt) in
      le_trans (mul-le-mul_right (2 ^ dropped d s) leading_le) (le_trans (le_of_eq (sym (pow-add 2 (suc d) (dropped d s)))) (pow_mono digits))
