-- A value above zero by its pattern b: the exponent's field is b / 2 ^ 52, the fraction b % 2 ^ 52. They say how many units the value is, and so how its square is scaled. Assumes nothing.
use Rattle.std.proofs.Common.{◌≡◌, ℕ, zero, suc, ◌+◌, ◌-◌, ◌*◌, ◌/◌, ◌%◌, ◌^◌, ◌<◌, ◌≤◌, Bool, true, false, cond, not, T, eqb, leb, sym, refl, ap, ◌∙◌, subst, mod-eq_of_lt, zero-lt-suc, mul-pos, mul-one, mul-div_cancel, arith, pow_pos, le-ltb, ne_eqb, leb-false}
use lib.Bits.{bit_and, and_mask}
use lib.Ieee.{Float, nan, inf, fin, binary64, low, down, odd, fits, is_nan, nan_bits, of_fields, of_bits, to_bits}
use lib.Ieee.Digits.{Equals, odd_val}
use lib.Ieee.Fits.{down_pos, eq→eqb}
use lib.Ieee.Exact.{odd_sign}
use lib.Ieee.Bits.{of_bits-to_bits, nan_bits_above}
use lib.Ieee.Positive.{positive, positive_of_value}
use borrow.Author.Tests.{lt-leb}
use Rattle.root.specs.Nearest.{magnitude, square}

magnitude_of : (v : Float) (a : ℕ) → Equals v a (2 ^ low binary64) → magnitude v ≡ a
magnitude_of nan a h = absurd h
magnitude_of (inf s) a h = absurd h
magnitude_of (fin s m e) a h = ap (λ (x : ℕ). x / down e) h ∙ mul-div_cancel a (down_pos e)

odd-plus : (d : ℕ) (s : Bool) (q k l : ℕ) → T (positive (odd d s q k l)) → (s ≡ false) × (0 < q)
unfolding odd
odd-plus d true zero k l p = absurd p
odd-plus d false zero k l p = absurd p
odd-plus d true (suc q) k l p = absurd p
odd-plus d false (suc q) k l p = (refl, zero-lt-suc q)

-- ---- the fields of a value above zero, n being its magnitude

abbrev Read : Bool → ℕ → ℕ → ℕ → Type 0
Read s zero t n = (s ≡ false) × (0 < t) × (n ≡ t)
Read s (suc f) t n = (s ≡ false) × (suc f < 2047) × (n ≡ (2 ^ 52 + t) * 2 ^ f)

at_zero : (s : Bool) (t : ℕ) → of_fields binary64 s 0 t ≡ odd 53 s t 0 (low binary64)
unfolding of_fields
at_zero s t = refl

at_suc : (s : Bool) (f t : ℕ) → of_fields binary64 s (suc f) t ≡ cond (eqb (suc f) 2047) (cond (eqb t 0) (inf s) nan) (odd 53 s (2 ^ 52 + t) f (low binary64))
unfolding of_fields
at_suc s f t = refl

no_end : (s b : Bool) → T (positive (cond b (inf s) nan)) → ⊥
no_end s true p = p
no_end s false p = p

read_fields : (s : Bool) (f t : ℕ) → f < 2048 → T (positive (of_fields binary64 s f t)) → Read s f t (magnitude (of_fields binary64 s f t))
read_fields s zero t h p =
    let o : T (positive (odd 53 s t 0 (low binary64))) = rw at_zero at p in
    ((odd-plus 53 s t 0 (low binary64) o).0, (odd-plus 53 s t 0 (low binary64) o).1, rw at_zero (magnitude_of (odd 53 s t 0 (low binary64)) (t * 2 ^ 0) (odd_val 53 s t 0 (low binary64)) ∙ mul-one t))
read_fields s (suc f) t h p = rw at_suc (go (eqb (suc f) 2047) eq→eqb (rw at_suc at p))
  where
    go : (b : Bool) → (suc f ≡ 2047 → T b) → T (positive (cond b (cond (eqb t 0) (inf s) nan) (odd 53 s (2 ^ 52 + t) f (low binary64))))
        → Read s (suc f) t (magnitude (cond b (cond (eqb t 0) (inf s) nan) (odd 53 s (2 ^ 52 + t) f (low binary64))))
    go true n o = absurd (no_end s (eqb t 0) o)
    go false n o = ((odd-plus 53 s (2 ^ 52 + t) f (low binary64) o).0, omega (arith, n), magnitude_of (odd 53 s (2 ^ 52 + t) f (low binary64)) ((2 ^ 52 + t) * 2 ^ f) (odd_val 53 s (2 ^ 52 + t) f (low binary64)))

sign_of : (s : Bool) (f t n : ℕ) → Read s f t n → s ≡ false
sign_of s zero t n r = r.0
sign_of s (suc f) t n r = r.0

-- a normal value that is made of its fields is above zero
made_plus : (f t : ℕ) → 0 < f → f < 2047 → T (positive (of_fields binary64 false f t))
made_plus zero t lo hi = absurd (omega arith)
made_plus (suc f) t lo hi =
    rw (at_suc, ne_eqb (suc f) 2047 (λ e. omega (arith, e)))
    (positive_of_value (odd 53 false (2 ^ 52 + t) f (low binary64)) ((2 ^ 52 + t) * 2 ^ f) (2 ^ low binary64) (odd_sign 53 false (2 ^ 52 + t) f (low binary64)) (mul-pos (omega arith) (pow_pos f)))

module _ (x : Float) (f : fits binary64 x ≡ true) where
  b : ℕ
  b = to_bits binary64 x

  same : of_fields binary64 (leb (2 ^ 63) b) (b % 2 ^ 63 / 2 ^ 52) (b % 2 ^ 52) ≡ x
  unfolding b
  same = unfold of_bits in of_bits-to_bits binary64 x (subst T (sym f) tt)

  -- a field that is neither 0 nor the highest, and no sign: the value is finite and above zero
  pub normal-plus : 0 < to_bits binary64 x / 2 ^ 52 → to_bits binary64 x / 2 ^ 52 < 2047 → T (positive x)
  unfolding b
  normal-plus lo hi =
      let small : b < 2 ^ 63 = omega (arith, hi) in
      let sign : leb (2 ^ 63) b ≡ false = lt-leb (2 ^ 63) b small in
      let field : b % 2 ^ 63 / 2 ^ 52 ≡ b / 2 ^ 52 = ap (λ (y : ℕ). y / 2 ^ 52) (mod-eq_of_lt small) in
      subst (λ (v : Float). T (positive v)) same (subst (λ (s : Bool). T (positive (of_fields binary64 s (b % 2 ^ 63 / 2 ^ 52) (b % 2 ^ 52)))) (sym sign)
      (subst (λ (y : ℕ). T (positive (of_fields binary64 false y (b % 2 ^ 52)))) (sym field) (made_plus (b / 2 ^ 52) (b % 2 ^ 52) lo hi)))

  module _ (p : T (positive x)) where
    read : Read (leb (2 ^ 63) b) (b % 2 ^ 63 / 2 ^ 52) (b % 2 ^ 52) (magnitude x)
    read =
        subst (λ (v : Float). Read (leb (2 ^ 63) b) (b % 2 ^ 63 / 2 ^ 52) (b % 2 ^ 52) (magnitude v)) same
        (read_fields (leb (2 ^ 63) b) (b % 2 ^ 63 / 2 ^ 52) (b % 2 ^ 52) (omega arith) (rw same p))

    field : b % 2 ^ 63 / 2 ^ 52 ≡ b / 2 ^ 52
    field = ap (λ (y : ℕ). y / 2 ^ 52) (mod-eq_of_lt (leb-false (2 ^ 63) b (sign_of (leb (2 ^ 63) b) (b % 2 ^ 63 / 2 ^ 52) (b % 2 ^ 52) (magnitude x) read)))

    -- the field is 0: the fraction alone
    pub bits_low : to_bits binary64 x / 2 ^ 52 ≡ 0 → (0 < to_bits binary64 x % 2 ^ 52) × (magnitude x ≡ to_bits binary64 x % 2 ^ 52)
    unfolding b
    bits_low z =
        let r = subst (λ (y : ℕ). Read (leb (2 ^ 63) b) y (b % 2 ^ 52) (magnitude x)) (field ∙ z) read in
        (r.1, r.2)

    -- any other: with the leading digit
    pub bits_high : (to_bits binary64 x / 2 ^ 52 ≡ 0 → ⊥) → (to_bits binary64 x / 2 ^ 52 < 2047) × (magnitude x ≡ (2 ^ 52 + to_bits binary64 x % 2 ^ 52) * 2 ^ (to_bits binary64 x / 2 ^ 52 - 1))
    unfolding b
    bits_high z = go (b / 2 ^ 52) refl
      where
        go : (y : ℕ) → b / 2 ^ 52 ≡ y → (b / 2 ^ 52 < 2047) × (magnitude x ≡ (2 ^ 52 + b % 2 ^ 52) * 2 ^ (b / 2 ^ 52 - 1))
        go zero e = absurd (z e)
        go (suc y) e =
            let r = subst (λ (y : ℕ). Read (leb (2 ^ 63) b) y (b % 2 ^ 52) (magnitude x)) (field ∙ e) read in
            (omega (arith, r.1), r.2 ∙ ap (λ (w : ℕ). (2 ^ 52 + b % 2 ^ 52) * 2 ^ w) (omega arith))

    -- ---- the square in units, by the fields as the code has them

    pub square-low : to_bits binary64 x / 2 ^ 52 ≡ 0 → bit_and (to_bits binary64 x) (2 ^ 52 - 1) * 2 ^ low binary64 ≡ square x
    square-low z = ap (λ (n : ℕ). n * 2 ^ low binary64) (and_mask (to_bits binary64 x) 52 ∙ sym (bits_low z).1)

    pub square-high : (to_bits binary64 x / 2 ^ 52 ≡ 0 → ⊥) → (2 ^ 52 + bit_and (to_bits binary64 x) (2 ^ 52 - 1)) * 2 ^ (to_bits binary64 x / 2 ^ 52 - 1) * 2 ^ low binary64 ≡ square x
    square-high z =
        ap (λ (t : ℕ). (2 ^ 52 + t) * 2 ^ (to_bits binary64 x / 2 ^ 52 - 1) * 2 ^ low binary64) (and_mask (to_bits binary64 x) 52)
        ∙ sym (ap (λ (n : ℕ). n * 2 ^ low binary64) (bits_high z).1)

pub plus-number : (x : Float) → T (positive x) → T (not (is_nan x))
unfolding is_nan
plus-number nan p = absurd p
plus-number (inf s) p = tt
plus-number (fin s m e) p = tt

-- a pattern up to the infinity's is no NaN's
pub no_nan : (b : ℕ) → b ≤ 2047 * 2 ^ 52 → T (not (nan_bits binary64 b))
no_nan b h = rw (nan_bits_above binary64 b, le-ltb (2047 * 2 ^ 52) (b % 2 ^ 63) (omega arith)) tt
