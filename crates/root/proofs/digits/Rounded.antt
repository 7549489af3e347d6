-- The root of a value by whole numbers: where its square in units is m * 4 ^ k, and q is the whole number nearest to the root of m, the rounded root is q * 2 ^ k units.
-- So its pattern is k * 2 ^ 52 + q. Assumes nothing.
use Rattle.std.proofs.Common.{◌≡◌, ℕ, zero, suc, ◌+◌, ◌-◌, ◌*◌, ◌/◌, ◌%◌, ◌^◌, ◌<◌, ◌≤◌, Bool, true, false, not, T, ltb, ◌⊎◌, ℤ, sym, refl, ap, ◌∙◌, subst, inl, inr, le_trans, lt_of_lt_of_le, lt_of_le_of_lt, mul-le-mul_right, div-lt_iff_lt-mul, mul-le-mul, le_antisymm, lt_of_mul-lt-mul_right, eq-or-lt_of_le, mul-lt-mul_of_pos_right, mul-pos, pow-suc, lt_of_not-le, le-div_iff_mul-le, zero-add, not-le_of_lt, div-mul-le_self, le_of_mul-le-mul_right, mul-div_cancel, arith, eqb→eq, lt→ltb, leb→le, pow_pos, pow_mono, pow-add}
use Prim.Native.Nat.{compare, Ordering}
use native.Mathlib.Nat.{mul-mul-mul_comm}
use lib.Dec.{is_le, compare_is_eq, nleb→lt}
use lib.Pow.{pow-lt}
use lib.Ieee.{Float, nan, inf, fin, binary64, low, emax, up, down, size, nearest, odd, units, of_bits, to_bits}
use lib.Ieee.Digits.{size-lt, size-le}
use lib.Ieee.Fits.{down_pos, odd-fits}
use lib.Ieee.Exact.{HasValue, odd_sign}
use lib.Ieee.Positive.{positive}
use lib.Ieee.Bits.{is_true, of_bits-to_bits}
use Rattle.root.specs.Sqrt.{IsRoot, whole_root, root_of_units, sqrt_of}
use Rattle.root.specs.Code.{Rooted, NearRoot, IsScaled}
use Rattle.root.specs.Nearest.{magnitude, square}
use Rattle.root.proofs.isqrt.Whole.{le-root, whole_root_lem}

-- ---- the digits below are dropped

pub four-pow : (k : ℕ) → 4 ^ k ≡ 2 ^ k * 2 ^ k
four-pow zero = refl
four-pow (suc k) = rw (pow-suc 4 k, pow-suc 2 k) (omega (arith, four-pow k))

module _ (m k s : ℕ) (h : IsRoot (m * 4 ^ k) s) where
  unit : 0 < 2 ^ k * 2 ^ k
  unit = mul-pos (pow_pos k) (pow_pos k)

  in_units_lem : m * 4 ^ k ≡ m * (2 ^ k * 2 ^ k)
  in_units_lem = ap (λ (x : ℕ). m * x) (four-pow k)

  over : s < suc (s / 2 ^ k) * 2 ^ k
  over = (div-lt_iff_lt-mul (pow_pos k)).0 (omega arith)

  kept-root : IsRoot m (s / 2 ^ k)
  kept-root = record {
    below = le_of_mul-le-mul_right (rw mul-mul-mul_comm (le_trans (mul-le-mul (div-mul-le_self s (2 ^ k)) (div-mul-le_self s (2 ^ k))) (rw in_units_lem at h).below)) unit;
    above = lt_of_mul-lt-mul_right (2 ^ k * 2 ^ k) (rw mul-mul-mul_comm (lt_of_lt_of_le (rw in_units_lem at h).above (mul-le-mul over over)));
  }

-- ---- 53 digits are kept

module _ (m q : ℕ) (lo : 2 ^ 104 ≤ m) (hi : m < 2 ^ 106) (h : IsRoot m q) where
  root-low : 2 ^ 52 ≤ q
  root-low = le-root m (2 ^ 52) q lo h.above

  root-high : q < 2 ^ 53
  root-high = omega (arith, le-root m q (2 ^ 53 - 1) h.below hi)

dropped : (k s : ℕ) → 2 ^ 52 ≤ s / 2 ^ k → s / 2 ^ k < 2 ^ 53 → size s - 53 ≡ k
dropped k s lo hi = omega (arith, most, least)
  where
    most : size s ≤ 53 + k
    most = size-le s (53 + k) (subst (λ (x : ℕ). s < x) (sym (pow-add 2 53 k)) ((div-lt_iff_lt-mul (pow_pos k)).0 hi))

    reach : 2 ^ (52 + k) ≤ s
    reach = subst (λ (x : ℕ). x ≤ s) (sym (pow-add 2 52 k)) ((le-div_iff_mul-le (pow_pos k)).0 lo)

    least : 52 + k < size s
    least = lt_of_not-le (λ (g : size s ≤ 52 + k). not-le_of_lt (lt_of_lt_of_le (size-lt s) (pow_mono g)) reach)

-- ---- the nearest of two neighbours

stays : (q a b : ℕ) → a < b → nearest q (compare a b) ≡ q
stays q a b h = go (compare a b) (nleb→lt a b) (eqb→eq a b)
  where
    go : (o : Ordering) → (T (not (is_le o)) → b < a) → (T (compare_is_eq o) → a ≡ b) → nearest q o ≡ q
    go Ordering.lt g e = refl
    go Ordering.eq g e = absurd (omega (arith, e tt))
    go Ordering.gt g e = absurd (omega (arith, g tt))

moves : (q a b : ℕ) → b < a → nearest q (compare a b) ≡ suc q
moves q a b h = go (compare a b) (leb→le a b)
  where
    go : (o : Ordering) → (T (is_le o) → a ≤ b) → nearest q o ≡ suc q
    go Ordering.lt l = absurd (omega (arith, l tt))
    go Ordering.eq l = absurd (omega (arith, l tt))
    go Ordering.gt l = refl

module _ (m q r : ℕ) (h : IsRoot m r) (n : NearRoot m q) where
  -- the root cut to a whole number is the nearest one, or one less
  either : (q ≡ r) ⊎ (q ≡ suc r)
  either = elim (eq-or-lt_of_le (le-root m r q h.below (omega (arith, n.high)))) [ inl e ↦ inl (sym e) | inr l ↦ inr (le_antisymm (omega (arith, least q n.low)) l) ]
    where
      least : (q : ℕ) → q * q < m + q → q ≤ suc r
      least zero g = omega arith
      least (suc p) g = omega (arith, le-root m p r (omega (arith, g)) h.above)

  -- u stands for 2 ^ k
  rounds : (u : ℕ) → 0 < u → nearest r (compare (4 * (m * (u * u))) ((2 * r + 1) * u * ((2 * r + 1) * u))) ≡ q
  rounds u p = go either
    where
      U : 0 < u * u
      U = mul-pos p p

      go : (q ≡ r) ⊎ (q ≡ suc r) → nearest r (compare (4 * (m * (u * u))) ((2 * r + 1) * u * ((2 * r + 1) * u))) ≡ q
      go (inl e) =
          let few : 4 * m < (2 * r + 1) * (2 * r + 1) = omega (arith, (rw e at n).high) in
          stays r (4 * (m * (u * u))) ((2 * r + 1) * u * ((2 * r + 1) * u)) (omega (arith, mul-lt-mul_of_pos_right few U)) ∙ sym e
      go (inr e) =
          let many : (2 * r + 1) * (2 * r + 1) < 4 * m = omega (arith, (rw e at n).low) in
          moves r (4 * (m * (u * u))) ((2 * r + 1) * u * ((2 * r + 1) * u)) (omega (arith, mul-lt-mul_of_pos_right many U)) ∙ sym e

-- ---- the rounded root in units

-- `root_of_units` from its square, that one's root s, and the number of the digits that are dropped on
abbrev core : ℕ → ℕ → ℕ → Float
core square s k = units binary64 false (nearest (s / 2 ^ k) (compare (4 * square) ((2 * (s / 2 ^ k) + 1) * 2 ^ k * ((2 * (s / 2 ^ k) + 1) * 2 ^ k)))) k

opened : (n : ℕ) → root_of_units n ≡ core (n * 2 ^ low binary64) (whole_root (n * 2 ^ low binary64)) (size (whole_root (n * 2 ^ low binary64)) - 53)
unfolding root_of_units
opened n = refl

core_near : (m k q s : ℕ) → 2 ^ 104 ≤ m → m < 2 ^ 106 → NearRoot m q → IsRoot (m * 4 ^ k) s → core (m * 4 ^ k) s (size s - 53) ≡ units binary64 false q k
core_near m k q s lo hi near h =
    let cut : IsRoot m (s / 2 ^ k) = kept-root m k s h in
    ap (core (m * 4 ^ k) s) (dropped k s (root-low m (s / 2 ^ k) lo hi cut) (root-high m (s / 2 ^ k) lo hi cut))
    ∙ ap (λ (x : ℕ). core (m * x) s k) (four-pow k)
    ∙ ap (λ (x : ℕ). units binary64 false x k) (rounds m q (s / 2 ^ k) cut near (2 ^ k) (pow_pos k))

rooted_units : (n m k q : ℕ) → n * 2 ^ low binary64 ≡ m * 4 ^ k → 2 ^ 104 ≤ m → m < 2 ^ 106 → NearRoot m q → root_of_units n ≡ units binary64 false q k
rooted_units n m k q e lo hi near =
    opened n
    ∙ ap (λ (x : ℕ). core x (whole_root x) (size (whole_root x) - 53)) e
    ∙ core_near m k q (whole_root (m * 4 ^ k)) lo hi near (whole_root_lem (m * 4 ^ k))

-- ---- its pattern

to_bits-at : (m : ℕ) (e : ℤ) (a : ℕ) → m * up e * 2 ^ low binary64 / down e ≡ a → to_bits binary64 (fin false m e) ≡ 0 + (size a - 53) * 2 ^ 52 + a / 2 ^ (size a - 53)
unfolding to_bits
to_bits-at m e a h = ap (λ (x : ℕ). 0 + (size x - 53) * 2 ^ 52 + x / 2 ^ (size x - 53)) h

to_bits_of : (v : Float) (a : ℕ) → HasValue v false a (2 ^ low binary64) → to_bits binary64 v ≡ (size a - 53) * 2 ^ 52 + a / 2 ^ (size a - 53)
to_bits_of nan a h = absurd h
to_bits_of (inf s) a h = absurd h
to_bits_of (fin s m e) a h =
    ap (λ (x : Bool). to_bits binary64 (fin x m e)) h.0
    ∙ to_bits-at m e a (ap (λ (x : ℕ). x / down e) h.1 ∙ mul-div_cancel a (down_pos e))
    ∙ ap (λ (x : ℕ). x + a / 2 ^ (size a - 53)) (zero-add ((size a - 53) * 2 ^ 52))

-- the pattern of a units, which are q * 2 ^ k
written : (a q k : ℕ) → q * 2 ^ k ≡ a → 2 ^ 52 ≤ q → q < 2 ^ 53 → (size a - 53) * 2 ^ 52 + a / 2 ^ (size a - 53) ≡ k * 2 ^ 52 + q
written a q k e lo hi =
    let d : a / 2 ^ k ≡ q = ap (λ (x : ℕ). x / 2 ^ k) (sym e) ∙ mul-div_cancel q (pow_pos k) in
    ap (λ (x : ℕ). x * 2 ^ 52 + a / 2 ^ x) (dropped k a (rw d lo) (rw d hi)) ∙ ap (λ (x : ℕ). k * 2 ^ 52 + x) d

-- one more than the largest q that has 53 digits is the smallest at the next k
written_next : (q k : ℕ) → 2 ^ 52 ≤ q → q ≤ 2 ^ 53 → (size (q * 2 ^ k) - 53) * 2 ^ 52 + q * 2 ^ k / 2 ^ (size (q * 2 ^ k) - 53) ≡ k * 2 ^ 52 + q
written_next q k lo hi = go (eq-or-lt_of_le hi)
  where
    go : (q ≡ 2 ^ 53) ⊎ (q < 2 ^ 53) → (size (q * 2 ^ k) - 53) * 2 ^ 52 + q * 2 ^ k / 2 ^ (size (q * 2 ^ k) - 53) ≡ k * 2 ^ 52 + q
    go (inl e) = written (q * 2 ^ k) (2 ^ 52) (suc k) (rw (e, pow-suc 2 k) (omega arith)) (omega arith) (omega arith) ∙ rw e (omega arith)
    go (inr l) = written (q * 2 ^ k) q k refl lo l

module _ (q k : ℕ) (lo : 2 ^ 52 ≤ q) (hi : q ≤ 2 ^ 53) (small : k ≤ 1533) where
  in_range_lem : q * 2 ^ k < 2 ^ (low binary64 + suc (emax binary64))
  in_range_lem = lt_of_le_of_lt (mul-le-mul_right (2 ^ k) hi) (subst (λ (x : ℕ). x < 2 ^ (low binary64 + suc (emax binary64))) (pow-add 2 53 k) (pow-lt {j = 2098} (omega arith)))

  units-odd : units binary64 false q k ≡ odd 54 false q k (low binary64)
  unfolding units
  units-odd = rw (is_true (ltb (q * 2 ^ k) (2 ^ (low binary64 + suc (emax binary64)))) (lt→ltb (q * 2 ^ k) (2 ^ (low binary64 + suc (emax binary64))) in_range_lem))

  units_bits : units binary64 false q k ≡ of_bits binary64 (k * 2 ^ 52 + q)
  units_bits =
      let v = odd 54 false q k (low binary64) in
      units-odd
      ∙ sym (of_bits-to_bits binary64 v (odd-fits binary64 54 false q k (omega arith) hi in_range_lem))
      ∙ ap (of_bits binary64) (to_bits_of v (q * 2 ^ k) (odd_sign 54 false q k (low binary64)) ∙ written_next q k lo hi)

-- ---- the law that the code cites

near_range : (m q : ℕ) → 2 ^ 104 ≤ m → m < 2 ^ 106 → NearRoot m q → (2 ^ 52 ≤ q) × (q ≤ 2 ^ 53)
near_range m q lo hi near = go (either m q (whole_root m) (whole_root_lem m) near)
  where
    least : 2 ^ 52 ≤ whole_root m
    least = root-low m (whole_root m) lo hi (whole_root_lem m)

    most : whole_root m < 2 ^ 53
    most = root-high m (whole_root m) lo hi (whole_root_lem m)

    go : (q ≡ whole_root m) ⊎ (q ≡ suc (whole_root m)) → (2 ^ 52 ≤ q) × (q ≤ 2 ^ 53)
    go (inl e) = omega (arith, e, least, most)
    go (inr e) = omega (arith, e, least, most)

-- above zero there is one case
sqrt-plus : (x : Float) → T (positive x) → sqrt_of x ≡ root_of_units (magnitude x)
unfolding sqrt_of
sqrt-plus nan p = absurd p
sqrt-plus (inf s) p = absurd p
sqrt-plus (fin true m e) p = absurd p
sqrt-plus (fin false zero e) p = absurd p
sqrt-plus (fin false (suc m) e) p = refl

module _ (x : Float) (p : T (positive x)) (a k q : ℕ) (s : IsScaled (square x) a k) (near : NearRoot (a * 2 ^ 52) q) where
  near_low : 2 ^ 52 ≤ q
  near_low = (near_range (a * 2 ^ 52) q (omega (arith, s.low)) (omega (arith, s.high)) near).0

  near_high : q ≤ 2 ^ 53
  near_high = (near_range (a * 2 ^ 52) q (omega (arith, s.low)) (omega (arith, s.high)) near).1

  pub rounded : of_bits binary64 (k * 2 ^ 52 + q) ≡ sqrt_of x
  rounded =
      sym (units_bits q k near_low near_high s.short)
      ∙ sym (rooted_units (magnitude x) (a * 2 ^ 52) k q s.sum (omega (arith, s.low)) (omega (arith, s.high)) near)
      ∙ sym (sqrt-plus x p)

-- ---- the nearest by the digits: the word holds a at its top, and 21 pairs of zeros come after it

pub word_rooted : {n a k q r : ℕ} → IsScaled n a k → Rooted (a * 2 ^ 10 % 2 ^ 64 * 4 ^ 53 / 4 ^ 32) q r → Rooted (a * 2 ^ 52) q r
word_rooted {n} {a} {k} {q} {r} s w = subst (λ (m : ℕ). Rooted m q r) (omega (arith, s.high)) w

pub near_down : {m q r : ℕ} → 0 < m → Rooted m q r → r ≤ q → NearRoot m q
near_down {m} {q} {r} p h l = record { low = go q h.sum l; high = omega (arith, h.sum) }
  where
    go : (q : ℕ) → q * q + r ≡ m → r ≤ q → q * q < m + q
    go zero e g = omega (arith, e)
    go (suc q) e g = omega (arith, e)

pub near_up : {m q r : ℕ} → Rooted m q r → q < r → NearRoot m (q + 1)
near_up h l = record { low = omega (arith, h.sum); high = omega (arith, h.sum, h.small) }
