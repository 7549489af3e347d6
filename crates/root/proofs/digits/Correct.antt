-- `sqrt_of` is the square root of IEEE 754: the nearest value, exact where the root is a value, and finite for a finite value that isn't below zero. Assumes nothing.
use Rattle.std.proofs.Common.{◌≡◌, ℕ, zero, suc, ◌+◌, ◌*◌, ◌%◌, ◌^◌, ◌<◌, ◌≤◌, Bool, true, false, cond, T, ltb, ℤ, sym, refl, ap, ◌∙◌, subst, true≢false, le_refl, le_of_suc-le-suc, lt_of_le_of_lt, zero-lt-suc, mul-le-mul, le_antisymm, mul-pos, lt_of_not-le, sub-le, arith, lit<, lit≤, lt→ltb, pow-add, shl_lt, lt-ltb}
use mathlib.Core.Bool.{false≢true}
use lib.Pow.{pow-lt}
use lib.Ieee.{Float, nan, inf, fin, Format, prec, emax, low, up, down, binary64, odd, units, lt, of_bits, fits}
use lib.Ieee.Fits.{odd-fits, up_pos}
use lib.Ieee.Exact.{HasValue, units_val}
use lib.Ieee.Scale.{finite}
use Rattle.root.specs.Sqrt.{IsRoot, whole_root, in_units, root_of_units, sqrt_of}
use Rattle.root.specs.Nearest.{magnitude, square, SidePlus, Nearer, IsNearestRoot}
use Rattle.root.proofs.isqrt.Whole.{whole_root_lem}
use Rattle.root.proofs.digits.Units.{FinitePlus, fitting, place, double, fits-units, units-pos, units_lt, value-units, short-units, units_unique}
use Rattle.root.proofs.digits.Kept.{sq_lt, Rounded, dropped, leading, rounded, leading_le, rounded_le}

-- ---- what `units` makes, below infinity

units-odd : (f : Format) (s : Bool) (q k : ℕ) → q * 2 ^ k < 2 ^ (low f + suc (emax f)) → units f s q k ≡ odd (suc (prec f)) s q k (low f)
unfolding units
units-odd f s q k h = go (ltb (q * 2 ^ k) (2 ^ (low f + suc (emax f)))) (lt→ltb (q * 2 ^ k) (2 ^ (low f + suc (emax f))) h)
  where
    go : (b : Bool) → T b → cond b (odd (suc (prec f)) s q k (low f)) (inf s) ≡ odd (suc (prec f)) s q k (low f)
    go true t = refl
    go false t = absurd t

units-held : (f : Format) (s : Bool) (q k : ℕ) → q ≤ 2 ^ prec f → q * 2 ^ k < 2 ^ (low f + suc (emax f)) → T (fits f (units f s q k))
units-held f s q k h g =
    subst (λ (x : Float). T (fits f x)) (sym (units-odd f s q k g)) (odd-fits f (suc (prec f)) s q k (lt_of_le_of_lt h (pow-lt (le_refl (suc (prec f))))) h g)

-- ---- the root is a value, and the rounded one

-- r is a value of `count` units, which is √N rounded
record NearRoot (N : ℕ) (r : Float) : Type 0 where
  count : ℕ
  near : Rounded (prec binary64) N count
  held : T (fits binary64 r)
  val : HasValue r false count (2 ^ low binary64)

-- A value is below 2 ^ 2098 units. So N, its count times 2 ^ 1074, is below 2 ^ 3172, and the root is far from infinity. 52 is one less than binary64's digits.
near_root : (N s m j : ℕ) → IsRoot N s → m % 2 ≡ 1 → m < 2 ^ prec binary64 → 0 < j → 4 * N ≡ m * 2 ^ j → N < 2 ^ (1586 + 1586)
    → NearRoot N (units binary64 false (leading 52 N s) (dropped 52 s))
near_root N s m j root odd short J is small =
    let q = leading 52 N s in
    let k = dropped 52 s in
    let fine : q * 2 ^ k < 2 ^ (low binary64 + suc (emax binary64)) = lt_of_le_of_lt (rounded_le 52 N s root 1586 (lit≤ tt) small) (lit< tt) in
    record {
      count = q * 2 ^ k;
      near = rounded 52 N s root m j odd short J is;
      held = units-held binary64 false q k (leading_le 52 N s root) fine;
      val = units_val binary64 false q k fine;
    }

root_is : (n : ℕ) → let N = n * 2 ^ low binary64 in root_of_units n ≡ units binary64 false (leading 52 N (whole_root N)) (dropped 52 (whole_root N))
unfolding root_of_units
root_is n = refl

quadruple : (m j l : ℕ) → 4 * (m * 2 ^ j * 2 ^ l) ≡ m * 2 ^ suc (suc (j + l))
quadruple m j l = omega (arith, double m (suc (j + l)), double m (j + l), ap (λ (x : ℕ). m * x) (pow-add 2 j l))

sqrt_near : (m : ℕ) (e : ℤ) → T (fits binary64 (fin false (suc m) e)) → NearRoot (square (fin false (suc m) e)) (sqrt_of (fin false (suc m) e))
unfolding sqrt_of
sqrt_near m e t =
    let h = fitting binary64 false m e t in
    let l = low binary64 in
    let n = in_units (suc m) e in
    let j = place l e in
    let N = n * 2 ^ l in
    let four : 4 * N ≡ suc m * 2 ^ suc (suc (j + l)) = ap (λ (x : ℕ). 4 * (x * 2 ^ l)) (fits-units (suc m) e h) ∙ quadruple (suc m) j l in
    subst (λ (r : Float). NearRoot N r) (sym (root_is n))
    (near_root N (whole_root N) (suc m) (suc (suc (j + l))) (whole_root_lem N) h.odd h.short (zero-lt-suc (suc (j + l))) four (shl_lt (suc (emax binary64) + l) l (units_lt (suc m) e h)))

-- ---- so it is the nearest

has_plus : (r : Float) (n c : ℕ) → HasValue r false n c → FinitePlus r
has_plus nan n c v = absurd v
has_plus (inf s) n c v = absurd v
has_plus (fin false m e) n c v = (refl, refl)
has_plus (fin true m e) n c v = absurd (true≢false v.0)

nearer : (N R : ℕ) → Rounded (prec binary64) N R → (y : Float) → T (fits binary64 y) → Nearer N R y
nearer N R near nan h = tt
nearer N R near (inf s) h = tt
nearer N R near (fin false m e) h = near.plus (in_units m e) (short-units (fin false m e) h)
nearer N R near (fin true m e) h = lt_of_le_of_lt (mul-le-mul (sub-le R (in_units m e)) (sub-le R (in_units m e))) near.minus

-- The root of a finite value above zero is the correctly rounded one: a value of binary64, nearer to the root than any other of either sign.
pub sqrt-nearest : (m : ℕ) (e : ℤ) → T (fits binary64 (fin false (suc m) e)) → IsNearestRoot (fin false (suc m) e) (sqrt_of (fin false (suc m) e))
sqrt-nearest m e t =
    let x = fin false (suc m) e in
    let r = sqrt_near m e t in
    let plus = has_plus (sqrt_of x) r.count (2 ^ low binary64) r.val in
    record {
      value = r.held;
      is_finite = plus.0;
      plus = plus.1;
      nearer = rw (value-units (sqrt_of x) false r.count r.val) (nearer (square x) r.count r.near);
    }

-- ---- and there is one nearest

one_side : (N R Q : ℕ) → SidePlus N R Q → SidePlus N Q R → R ≡ Q
one_side N R Q a b = le_antisymm (no_less N Q R b a) (no_less N R Q a b)
  where
    -- R isn't above Q: the root would lie on both sides of their middle
    no_less : (N Q R : ℕ) → SidePlus N Q R → SidePlus N R Q → R ≤ Q
    no_less N Q R a b = le_of_suc-le-suc (lt_of_not-le (λ (h : Q < R). clash (a.0 h) (b.1 h)))
      where
        clash : 4 * N < (Q + R) * (Q + R) → (R + Q) * (R + Q) < 4 * N → ⊥
        clash p q = omega arith

same_units : (x r t : Float) → IsNearestRoot x r → IsNearestRoot x t → magnitude r ≡ magnitude t
same_units x r t a b = one_side (square x) (magnitude r) (magnitude t) (side r t a (b.is_finite, b.plus) b.value) (side t r b (a.is_finite, a.plus) a.value)
  where
    side : (r t : Float) → IsNearestRoot x r → FinitePlus t → T (fits binary64 t) → SidePlus (square x) (magnitude r) (magnitude t)
    side r nan a p h = absurd (false≢true p.0)
    side r (inf s) a p h = absurd (false≢true p.0)
    side r (fin true m e) a p h = absurd (false≢true p.1)
    side r (fin false m e) a p h = a.nearer (fin false m e) h

-- No value has two correctly rounded roots.
pub nearest_unique : (x r t : Float) → IsNearestRoot x r → IsNearestRoot x t → r ≡ t
nearest_unique x r t a b = units_unique r t a.value b.value (a.is_finite, a.plus) (b.is_finite, b.plus) (same_units x r t a b)

-- ---- exact roots

-- the root itself is on its own side of any middle
own_root : (p N R : ℕ) → 0 < R → R * R ≡ N → Rounded p N R
own_root p N R h e = record {
  plus = λ Y y. (λ g. omega (arith, sq_lt {a = 2 * R} {b = R + Y} (omega arith)), λ g. omega (arith, sq_lt {a = R + Y} {b = 2 * R} (omega arith)));
  minus = omega (arith, mul-pos h h);
}

-- Where a value y is exactly the root of x, the root given is y.
pub sqrt_exact : (m : ℕ) (e : ℤ) (j : ℕ) (d : ℤ) → T (fits binary64 (fin false (suc m) e)) → T (fits binary64 (fin false (suc j) d))
    → magnitude (fin false (suc j) d) * magnitude (fin false (suc j) d) ≡ square (fin false (suc m) e) → sqrt_of (fin false (suc m) e) ≡ fin false (suc j) d
sqrt_exact m e j d h k is =
    let x = fin false (suc m) e in
    let y = fin false (suc j) d in
    let near = own_root (prec binary64) (square x) (magnitude y) (units-pos j d (fitting binary64 false j d k)) is in
    nearest_unique x (sqrt_of x) y (sqrt-nearest m e h) (record { value = k; is_finite = refl; plus = refl; nearer = nearer (square x) (magnitude y) near })

-- ---- which roots are finite

-- +0, as code writes it
abbrev pub plus_zero : Float
plus_zero = of_bits binary64 0

-- A finite value with a minus sign that isn't -0 is below zero.
below_zero : (m : ℕ) (e : ℤ) → lt (fin true (suc m) e) plus_zero ≡ true
unfolding lt of_bits
below_zero m e = lt-ltb 0 (suc m * up e * 1 + 0 * 1 * down e) (omega (arith, mul-pos (zero-lt-suc m) (up_pos e)))

-- The root of a finite value that isn't below zero is finite.
pub sqrt-finite : (x : Float) → T (fits binary64 x) → finite x ≡ true → lt x plus_zero ≡ false → finite (sqrt_of x) ≡ true
unfolding sqrt_of
sqrt-finite nan h f b = f
sqrt-finite (inf s) h f b = absurd (false≢true f)
sqrt-finite (fin s zero e) h f b = refl
sqrt-finite (fin true (suc m) e) h f b = sym b ∙ below_zero m e
sqrt-finite (fin false (suc m) e) h f b =
    let r = sqrt_near m e h in
    (has_plus (sqrt_of (fin false (suc m) e)) r.count (2 ^ low binary64) r.val).0
