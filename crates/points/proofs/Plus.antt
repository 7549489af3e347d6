-- Values of binary64 at or above zero: their sizes, which operations keep to them, and which are finite. Assumes nothing.
use mathlib.Core.Path.{◌≡◌, refl, sym, ap, ◌∙◌}
use mathlib.Core.Bool.{Bool, true, false, not, ◌&&◌, beq, cond}
use Prim.Native.Nat.{ℕ, zero, suc, ◌+◌, ◌-◌, ◌*◌, ◌/◌, ◌%◌, ◌^◌, ◌≤◌, ◌<◌, compare}
use native.Mathlib.Nat.{mul-one, mul_assoc, not-le_of_lt}
use native.Mathlib.Omega.{arith}
use borrow.Author.Tests.{ltb-true, ltb-false, le-ltb}
use lib.Dec.{T, ltb, leb, eqb, ltb→lt, leb→le, lit<}
use lib.IntN.{pos, negsuc}
use lib.Pow.{pow_pos, pow-add, pow-lt}
use lib.Ieee.{Float, nan, inf, fin, binary64, low, emax, unlike, up, down, prec, size as digitsOf, nearest, round, sum, odd, units, add, sub, mul, div, neg, lt, le, eq, fits, of_bits}
use lib.Ieee.Bits.{of_bits-fits}
use lib.Ieee.Digits.{back}
use lib.Ieee.Exact.{HasValue, round_exact}
use lib.Ieee.Order.{round_mono}
use lib.Ieee.Positive.{num, den}
use lib.Ieee.Scale.{finite}
use Rattle.points.specs.Numbers.{◌+f◌, ◌-f◌, ◌*f◌, ◌/f◌, f0, f1}

-- ---- values at or above zero, in units of the smallest

abbrev pub unit : ℕ
unit = 2 ^ low binary64

pub unit_pos : 0 < 2 ^ low binary64
unit_pos = pow_pos (low binary64)

-- W units, with 53 digits
pub record Size (x : Float) : Type 0 where
  pub digits : ℕ
  pub exponent : ℕ
  pub few : digits < 2 ^ 53
  pub value : HasValue x false (digits * 2 ^ exponent) (2 ^ low binary64)

abbrev pub size : {x : Float} → Size x → ℕ
size s = s.digits * 2 ^ s.exponent

-- neither below zero nor a NaN; and finite
abbrev pub plus : Float → Bool
plus nan = false
plus (inf s) = not s
plus (fin s m e) = not s

second_third : (a b c d : Bool) → T (a && b && c && d) → T b × T c
second_third true true true d t = (tt, tt)
second_third true true false d t = absurd t
second_third true false c d t = absurd t
second_third false b c d t = absurd t

whole_size : (m k l : ℕ) → m * 2 ^ k * 2 ^ l ≡ m * 2 ^ (k + l) * 1
whole_size m k l = mul_assoc m (2 ^ k) (2 ^ l) ∙ ap (λ (z : ℕ). m * z) (sym (pow-add 2 k l)) ∙ sym (mul-one (m * 2 ^ (k + l)))

part_size : (m k l : ℕ) → k ≤ l → m * 1 * 2 ^ l ≡ m * 2 ^ (l - k) * 2 ^ k
part_size m k l h = ap (λ (z : ℕ). z * 2 ^ l) (mul-one m) ∙ ap (λ (z : ℕ). m * z) (sym (ap (λ (z : ℕ). 2 ^ z) (back l k h)) ∙ pow-add 2 (l - k) k) ∙ sym (mul_assoc m (2 ^ (l - k)) (2 ^ k))

no_size : (a b c : ℕ) → 0 * a * b ≡ 0 * 2 ^ 0 * c
no_size a b c = omega arith

lower_power : (k l : ℕ) → 2 ^ k ≤ 2 ^ l → k ≤ l
lower_power k l h = go (ltb l k) refl
  where
    go : (t : Bool) → ltb l k ≡ t → k ≤ l
    go false e = ltb-false l k e
    go true e = absurd (not-le_of_lt (pow-lt (ltb-true l k e)) h)

pub sized : (x : Float) → T (fits binary64 x) → T (plus x) → T (finite x) → Size x
unfolding fits
sized nan f p q = absurd p
sized (inf s) f p q = absurd q
sized (fin true m e) f p q = absurd p
sized (fin false zero e) f p q = record { digits = 0; exponent = 0; few = omega arith; value = (refl, no_size (up e) (2 ^ low binary64) (down e)) }
sized (fin false (suc m) (pos k)) f p q =
    let t = second_third (eqb (suc m % 2) 1) (ltb (suc m) (2 ^ 53)) (leb (down (pos k)) (2 ^ low binary64)) (ltb (suc m * up (pos k)) (2 ^ suc (emax binary64) * down (pos k))) f in
    record { digits = suc m; exponent = k + low binary64; few = ltb→lt (suc m) (2 ^ 53) t.0; value = (refl, whole_size (suc m) k (low binary64)) }
sized (fin false (suc m) (negsuc k)) f p q =
    let t = second_third (eqb (suc m % 2) 1) (ltb (suc m) (2 ^ 53)) (leb (down (negsuc k)) (2 ^ low binary64)) (ltb (suc m * up (negsuc k)) (2 ^ suc (emax binary64) * down (negsuc k))) f in
    let h : suc k ≤ low binary64 = lower_power (suc k) (low binary64) (leb→le (2 ^ suc k) (2 ^ low binary64) t.1) in
    record { digits = suc m; exponent = low binary64 - suc k; few = ltb→lt (suc m) (2 ^ 53) t.0; value = (refl, part_size (suc m) (suc k) (low binary64) h) }

-- ---- which are finite

neg-finite : (x : Float) → T (finite (neg x)) → T (finite x)
unfolding neg
neg-finite nan t = t
neg-finite (inf s) t = t
neg-finite (fin s m e) t = t

pub add-finite : (x y : Float) → T (finite (x +f y)) → T (finite x) × T (finite y)
unfolding add
add-finite nan y t = absurd t
add-finite (inf s) nan t = absurd t
add-finite (inf s) (inf r) t = absurd (go (beq s r) t)
  where
    go : (b : Bool) → T (finite (cond b (inf s) nan)) → ⊥
    go true t = t
    go false t = t
add-finite (inf s) (fin r n d) t = absurd t
add-finite (fin s m e) nan t = absurd t
add-finite (fin s m e) (inf r) t = absurd t
add-finite (fin s m e) (fin r n d) t = (tt, tt)

pub sub-finite : (x y : Float) → T (finite (x -f y)) → T (finite x) × T (finite y)
unfolding sub
sub-finite x y t = let p = add-finite x (neg y) t in (p.0, neg-finite y p.1)

either_wild : (b s : Bool) → T (finite (cond b nan (inf s))) → ⊥
either_wild true s t = t
either_wild false s t = t

pub mul-finite : (x y : Float) → T (finite (x *f y)) → T (finite x) × T (finite y)
unfolding mul
mul-finite nan y t = absurd t
mul-finite (inf s) nan t = absurd t
mul-finite (inf s) (inf r) t = absurd t
mul-finite (inf s) (fin r n d) t = absurd (either_wild (eqb n 0) (unlike s r) t)
mul-finite (fin s m e) nan t = absurd t
mul-finite (fin s m e) (inf r) t = absurd (either_wild (eqb m 0) (unlike s r) t)
mul-finite (fin s m e) (fin r n d) t = (tt, tt)

pub div-finite : (x y : Float) → T (finite (x /f y)) → T (finite x)
unfolding div
div-finite nan y t = absurd t
div-finite (inf s) nan t = absurd t
div-finite (inf s) (inf r) t = absurd t
div-finite (inf s) (fin r n d) t = absurd t
div-finite (fin s m e) y t = tt

-- ---- which are at or above zero

pub valued_plus : (x : Float) (a c : ℕ) → HasValue x false a c → T (plus x)
valued_plus nan a c v = absurd v
valued_plus (inf s) a c v = absurd v
valued_plus (fin s m e) a c v = rw v.0 tt

pub own_value : (x : Float) → T (plus x) → T (finite x) → HasValue x false (num x) (den x)
own_value nan p q = absurd p
own_value (inf s) p q = absurd q
own_value (fin true m e) p q = absurd p
own_value (fin false m e) p q = (refl, refl)

-- what is above such a number is one
pub plus_above : (x y : Float) → T (plus x) → T (lt x y) → T (plus y)
unfolding lt
plus_above nan y p h = absurd p
plus_above (inf true) y p h = absurd p
plus_above (inf false) nan p h = absurd h
plus_above (inf false) (inf t) p h = absurd h
plus_above (inf false) (fin t n d) p h = absurd h
plus_above (fin true m e) y p h = absurd p
plus_above (fin false m e) nan p h = absurd h
plus_above (fin false m e) (inf t) p h = h
plus_above (fin false m e) (fin true n d) p h = absurd h
plus_above (fin false m e) (fin false n d) p h = tt

-- and what has such a number above it is finite
pub finite_below : (x y : Float) → T (plus x) → T (lt x y) → T (finite x)
unfolding lt
finite_below nan y p h = absurd p
finite_below (inf true) y p h = absurd p
finite_below (inf false) nan p h = absurd h
finite_below (inf false) (inf t) p h = absurd h
finite_below (inf false) (fin t n d) p h = absurd h
finite_below (fin s m e) y p h = tt

pub f0-value : HasValue f0 false 0 1
unfolding of_bits
f0-value = (refl, refl)

pub f1-value : HasValue f1 false 1 1
unfolding of_bits
f1-value = (refl, refl)

pub f0-fits : T (fits binary64 f0)
f0-fits = of_bits-fits binary64 0

pub f0-plus : T (plus f0)
unfolding of_bits
f0-plus = tt

-- such a number is not below zero
pub plus-not_below : (x : Float) → T (plus x) → lt x f0 ≡ false
unfolding lt of_bits
plus-not_below nan p = absurd p
plus-not_below (inf true) p = absurd p
plus-not_below (inf false) p = refl
plus-not_below (fin true m e) p = absurd p
plus-not_below (fin false m e) p = le-ltb (m * up e * 1) (0 * 1 * down e) (omega arith)

-- ---- which operations keep to them

odd-plus : (d q k l : ℕ) → T (plus (odd d false q k l))
unfolding odd
odd-plus d zero k l = tt
odd-plus d (suc q) k l = tt

units-plus : (q k : ℕ) → T (plus (units binary64 false q k))
unfolding units
units-plus q k = go (ltb (q * 2 ^ k) (2 ^ (low binary64 + suc (emax binary64))))
  where
    go : (b : Bool) → T (plus (cond b (odd (suc (prec binary64)) false q k (low binary64)) (inf false)))
    go true = odd-plus (suc (prec binary64)) q k (low binary64)
    go false = tt

pub round-plus : (a c : ℕ) → T (plus (round binary64 false a c))
unfolding round
round-plus a c =
    let n = a * 2 ^ low binary64 in
    let k = digitsOf (n / c) - prec binary64 in
    let u = c * 2 ^ k in
    units-plus (nearest (n / u) (compare (n % u * 2) u)) k

pub plus-add : (x y : Float) → T (plus x) → T (plus y) → T (finite (x +f y)) → T (plus (x +f y))
unfolding add sum
plus-add nan y p q t = absurd p
plus-add (inf s) nan p q t = absurd t
plus-add (inf true) (inf r) p q t = absurd p
plus-add (inf false) (inf true) p q t = absurd q
plus-add (inf false) (inf false) p q t = absurd t
plus-add (inf s) (fin r n d) p q t = absurd t
plus-add (fin s m e) nan p q t = absurd t
plus-add (fin s m e) (inf r) p q t = absurd t
plus-add (fin true m e) (fin r n d) p q t = absurd p
plus-add (fin false m e) (fin true n d) p q t = absurd q
plus-add (fin false m e) (fin false n d) p q t = round-plus (m * up e * down d + n * up d * down e) (down e * down d)

pub plus-mul : (x y : Float) → T (plus x) → T (plus y) → T (finite (x *f y)) → T (plus (x *f y))
unfolding mul
plus-mul nan y p q t = absurd p
plus-mul (inf s) nan p q t = absurd t
plus-mul (inf s) (inf r) p q t = absurd t
plus-mul (inf s) (fin r n d) p q t = absurd (either_wild (eqb n 0) (unlike s r) t)
plus-mul (fin s m e) nan p q t = absurd t
plus-mul (fin s m e) (inf r) p q t = absurd (either_wild (eqb m 0) (unlike s r) t)
plus-mul (fin true m e) (fin r n d) p q t = absurd p
plus-mul (fin false m e) (fin true n d) p q t = absurd q
plus-mul (fin false m e) (fin false n d) p q t = round-plus (m * up e * (n * up d)) (down e * down d)

pub plus-square : (x : Float) → T (finite (x *f x)) → T (plus (x *f x))
unfolding mul
plus-square nan t = absurd t
plus-square (inf s) t = absurd t
plus-square (fin true m e) t = round-plus (m * up e * (m * up e)) (down e * down e)
plus-square (fin false m e) t = round-plus (m * up e * (m * up e)) (down e * down e)

-- the difference from one that isn't above it
pub plus-sub : (x y : Float) → T (plus x) → T (plus y) → lt x y ≡ false → T (finite (x -f y)) → T (plus (x -f y))
unfolding sub add neg sum lt
plus-sub nan y p q h t = absurd p
plus-sub (inf s) nan p q h t = absurd t
plus-sub (inf true) (inf r) p q h t = absurd p
plus-sub (inf false) (inf true) p q h t = absurd q
plus-sub (inf false) (inf false) p q h t = absurd t
plus-sub (inf s) (fin r n d) p q h t = absurd t
plus-sub (fin s m e) nan p q h t = absurd t
plus-sub (fin s m e) (inf r) p q h t = absurd t
plus-sub (fin true m e) (fin r n d) p q h t = absurd p
plus-sub (fin false m e) (fin true n d) p q h t = absurd q
plus-sub (fin false m e) (fin false n d) p q h t = rw h (round-plus (m * up e * down d - n * up d * down e) (down e * down d))

-- ---- which stay finite

below_finite : (x y : Float) → T (plus x) → T (le x y) → T (finite y) → T (finite x)
unfolding le lt eq
below_finite nan y p h t = absurd p
below_finite (inf true) y p h t = absurd p
below_finite (inf false) nan p h t = absurd t
below_finite (inf false) (inf r) p h t = absurd t
below_finite (inf false) (fin r n d) p h t = absurd h
below_finite (fin s m e) y p h t = tt

valued_finite : (x : Float) (s : Bool) (a c : ℕ) → HasValue x s a c → T (finite x)
valued_finite nan s a c v = absurd v
valued_finite (inf t) s a c v = absurd v
valued_finite (fin t m e) s a c v = tt

times_one : (a m c : ℕ) → a ≤ m * c → a * 1 ≤ m * c
times_one a m c h = omega arith

-- what is rounded from no more than 2 ^ 1023
pub small-finite : (a c : ℕ) → 0 < c → a ≤ 2 ^ 1023 * c → T (finite (round binary64 false a c))
small-finite a c C h =
    below_finite (round binary64 false a c) (round binary64 false (2 ^ 1023) 1) (round-plus a c) (round_mono binary64 a c (2 ^ 1023) 1 C (lit< tt) (times_one a (2 ^ 1023) c h))
    (valued_finite (round binary64 false (2 ^ 1023) 1) false (2 ^ 1023) 1 (round_exact binary64 false (2 ^ 1023) 1 1 2097 (lit< tt) (lit< tt) (lit< tt) refl))
