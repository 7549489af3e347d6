-- Values of binary64 counted in units of the smallest one, 2 ^ -1074. One that fits is a number below 2 ^ 53 times a power of two, and no other value of its sign has as many units.
-- Assumes nothing.
use Rattle.std.proofs.Common.{◌≡◌, ℕ, zero, suc, ◌+◌, ◌-◌, ◌*◌, ◌/◌, ◌%◌, ◌^◌, ◌<◌, ◌≤◌, Bool, true, false, ◌&&◌, T, eqb, ltb, leb, ℤ, pos, negsuc, sym, refl, ap, ◌∙◌, subst, le_of_suc-le-suc, lt_irrefl, zero-lt-suc, mul_assoc, lt_of_mul-lt-mul_right, mul-lt-mul_of_pos_right, mul-pos, lt_of_not-le, zero-mul, mul-one, mul_right_comm, not-le_of_lt, mul-div_cancel, mul_left_comm, arith, eqb→eq, ltb→lt, leb→le, pow_pos, pow-add}
use mathlib.Core.Bool.{false≢true}
use native.Mathlib.Nat.{zero-div, pow-succ'}
use lib.Pow.{pow-lt}
use lib.Ieee.{Float, nan, inf, fin, Format, prec, emax, low, binary64, up, down, fits}
use lib.Ieee.Digits.{back}
use lib.Ieee.Fits.{and_l, and_r, down_pos}
use lib.Ieee.Exact.{HasValue}
use lib.Ieee.Back.{whole_unique}
use lib.Ieee.Scale.{finite}
use Rattle.root.specs.Sqrt.{in_units}
use Rattle.errors.specs.Numbers.{is_plus}
use Rattle.root.specs.Nearest.{magnitude}

-- ---- an odd number times a power of two is so in one way

odd_even : (m t : ℕ) → m % 2 ≡ 1 → m ≡ 2 * t → ⊥
odd_even m t o h = omega arith

pub double : (n b : ℕ) → n * 2 ^ suc b ≡ 2 * (n * 2 ^ b)
double n b = ap (λ (x : ℕ). n * x) (pow-succ' 2 b) ∙ mul_left_comm n 2 (2 ^ b)

pub odd_pow : (m n a b : ℕ) → m % 2 ≡ 1 → n % 2 ≡ 1 → m * 2 ^ a ≡ n * 2 ^ b → (m ≡ n) × (a ≡ b)
odd_pow m n zero zero o p h = (sym (mul-one m) ∙ h ∙ mul-one n, refl)
odd_pow m n zero (suc b) o p h = absurd (odd_even m (n * 2 ^ b) o (sym (mul-one m) ∙ h ∙ double n b))
odd_pow m n (suc a) zero o p h = absurd (odd_even n (m * 2 ^ a) p (sym (mul-one n) ∙ sym h ∙ double m a))
odd_pow m n (suc a) (suc b) o p h =
    let half : m * 2 ^ a ≡ n * 2 ^ b = omega (arith, double m a, double n b) in
    let r = odd_pow m n a b o p half in
    (r.0, ap suc r.1)

-- ---- what `fits` says

pub record Fitting (f : Format) (m : ℕ) (e : ℤ) : Type 0 where
  pub odd : m % 2 ≡ 1
  pub short : m < 2 ^ prec f
  pub fine : down e ≤ 2 ^ low f
  pub small : m * up e < 2 ^ suc (emax f) * down e

pub fitting : (f : Format) (s : Bool) (m : ℕ) (e : ℤ) → T (fits f (fin s (suc m) e)) → Fitting f (suc m) e
unfolding fits
fitting f s m e t =
    let a = eqb (suc m % 2) 1 in
    let b = ltb (suc m) (2 ^ prec f) in
    let c = leb (down e) (2 ^ low f) in
    let d = ltb (suc m * up e) (2 ^ suc (emax f) * down e) in
    let abc = and_l (a && b && c) d t in
    let ab = and_l (a && b) c abc in
    record {
      odd = eqb→eq (suc m % 2) 1 (and_l a b ab);
      short = ltb→lt (suc m) (2 ^ prec f) (and_r a b ab);
      fine = leb→le (down e) (2 ^ low f) (and_r (a && b) c abc);
      small = ltb→lt (suc m * up e) (2 ^ suc (emax f) * down e) (and_r (a && b && c) d t);
    }

-- ---- m * 2 ^ e is m * 2 ^ place units of 2 ^ -l

abbrev pub place : ℕ → ℤ → ℕ
place l (pos a) = a + l
place l (negsuc a) = l - suc a

pow-le_inv : (i j : ℕ) → 2 ^ i ≤ 2 ^ j → i ≤ j
pow-le_inv i j h = le_of_suc-le-suc (lt_of_not-le (λ (g : suc j ≤ i). not-le_of_lt (pow-lt g) h))

place_val : (l m : ℕ) (e : ℤ) → down e ≤ 2 ^ l → m * up e * 2 ^ l ≡ m * 2 ^ place l e * down e
place_val l m (pos a) h = mul_assoc m (2 ^ a) (2 ^ l) ∙ ap (λ (x : ℕ). m * x) (sym (pow-add 2 a l)) ∙ sym (mul-one (m * 2 ^ (a + l)))
place_val l m (negsuc a) h =
    ap (λ (x : ℕ). x * 2 ^ l) (mul-one m)
    ∙ ap (λ (x : ℕ). m * 2 ^ x) (sym (back l (suc a) (pow-le_inv (suc a) l h)))
    ∙ ap (λ (x : ℕ). m * x) (pow-add 2 (l - suc a) (suc a))
    ∙ sym (mul_assoc m (2 ^ (l - suc a)) (2 ^ suc a))

place-lt : (l c m : ℕ) (e : ℤ) → down e ≤ 2 ^ l → m * up e < 2 ^ c * down e → m * 2 ^ place l e < 2 ^ (c + l)
place-lt l c m e h k =
    lt_of_mul-lt-mul_right (down e)
    (subst (λ (x : ℕ). x < 2 ^ (c + l) * down e) (place_val l m e h)
    (subst (λ (x : ℕ). m * up e * 2 ^ l < x) (mul_right_comm (2 ^ c) (down e) (2 ^ l) ∙ ap (λ (x : ℕ). x * down e) (sym (pow-add 2 c l))) (mul-lt-mul_of_pos_right k (pow_pos l))))

place_inj : (l : ℕ) (e g : ℤ) → down e ≤ 2 ^ l → down g ≤ 2 ^ l → place l e ≡ place l g → e ≡ g
place_inj l (pos a) (pos b) h k p = ap pos (same a b l p)
  where
    same : (a b l : ℕ) → a + l ≡ b + l → a ≡ b
    same a b l p = omega arith
place_inj l (pos a) (negsuc b) h k p = absurd (clash a b l (pow-le_inv (suc b) l k) p)
  where
    clash : (a b l : ℕ) → suc b ≤ l → a + l ≡ l - suc b → ⊥
    clash a b l h p = omega arith
place_inj l (negsuc a) (pos b) h k p = absurd (clash a b l (pow-le_inv (suc a) l h) p)
  where
    clash : (a b l : ℕ) → suc a ≤ l → l - suc a ≡ b + l → ⊥
    clash a b l h p = omega arith
place_inj l (negsuc a) (negsuc b) h k p = ap negsuc (same a b l (pow-le_inv (suc a) l h) (pow-le_inv (suc b) l k) p)
  where
    same : (a b l : ℕ) → suc a ≤ l → suc b ≤ l → l - suc a ≡ l - suc b → a ≡ b
    same a b l h k p = omega arith

-- ---- how many units a value is

pub value-units : (x : Float) (s : Bool) (n : ℕ) → HasValue x s n (2 ^ low binary64) → magnitude x ≡ n
value-units nan s n v = absurd v
value-units (inf t) s n v = absurd v
value-units (fin t m e) s n v = ap (λ (x : ℕ). x / down e) v.1 ∙ mul-div_cancel n (down_pos e)

zero-units : (e : ℤ) → in_units 0 e ≡ 0
zero-units e = ap (λ (x : ℕ). x / down e) (ap (λ (x : ℕ). x * 2 ^ low binary64) (zero-mul (up e)) ∙ zero-mul (2 ^ low binary64)) ∙ zero-div (down e)

pub fits-units : (m : ℕ) (e : ℤ) → Fitting binary64 m e → in_units m e ≡ m * 2 ^ place (low binary64) e
fits-units m e h = value-units (fin false m e) false (m * 2 ^ place (low binary64) e) (refl, place_val (low binary64) m e h.fine)

pub units-pos : (m : ℕ) (e : ℤ) → Fitting binary64 (suc m) e → 0 < in_units (suc m) e
units-pos m e h = subst (λ (x : ℕ). 0 < x) (sym (fits-units (suc m) e h)) (mul-pos (zero-lt-suc m) (pow_pos (place (low binary64) e)))

pub units_lt : (m : ℕ) (e : ℤ) → Fitting binary64 m e → in_units m e < 2 ^ (suc (emax binary64) + low binary64)
units_lt m e h = subst (λ (x : ℕ). x < 2 ^ (suc (emax binary64) + low binary64)) (sym (fits-units m e h)) (place-lt (low binary64) (suc (emax binary64)) m e h.fine h.small)

-- ---- a number of at most p digits, with zeros behind them

pub record Short (p n : ℕ) : Type 0 where
  pub digits : ℕ
  pub zeros : ℕ
  pub is : n ≡ digits * 2 ^ zeros
  pub short : digits < 2 ^ p

pub short-units : (x : Float) → T (fits binary64 x) → Short (prec binary64) (magnitude x)
short-units nan h = record { digits = 0; zeros = 0; is = refl; short = pow_pos (prec binary64) }
short-units (inf s) h = record { digits = 0; zeros = 0; is = refl; short = pow_pos (prec binary64) }
short-units (fin s zero e) h = record { digits = 0; zeros = 0; is = zero-units e; short = pow_pos (prec binary64) }
short-units (fin s (suc m) e) h =
    let k = fitting binary64 s m e h in
    record { digits = suc m; zeros = place (low binary64) e; is = fits-units (suc m) e k; short = k.short }

-- ---- two values of one sign with as many units are one

-- finite, with its sign bit clear
abbrev pub FinitePlus : Float → Type 0
FinitePlus x = (finite x ≡ true) × (is_plus x ≡ true)

pub units_unique : (x y : Float) → T (fits binary64 x) → T (fits binary64 y) → FinitePlus x → FinitePlus y → magnitude x ≡ magnitude y → x ≡ y
units_unique nan y h k p q same = absurd (false≢true p.0)
units_unique (inf s) y h k p q same = absurd (false≢true p.0)
units_unique (fin true m e) y h k p q same = absurd (false≢true p.1)
units_unique (fin false m e) nan h k p q same = absurd (false≢true q.0)
units_unique (fin false m e) (inf t) h k p q same = absurd (false≢true q.0)
units_unique (fin false m e) (fin true n g) h k p q same = absurd (false≢true q.1)
units_unique (fin false zero e) (fin false zero g) h k p q same = whole_unique binary64 (fin false 0 e) (fin false 0 g) false 0 h k (refl, zero_whole e) (refl, zero_whole g)
  where
    zero_whole : (e : ℤ) → 0 * up e * 1 ≡ 0 * down e
    zero_whole e = mul-one (0 * up e) ∙ zero-mul (up e) ∙ sym (zero-mul (down e))
units_unique (fin false zero e) (fin false (suc n) g) h k p q same =
    absurd (lt_irrefl 0 (subst (λ (x : ℕ). 0 < x) (sym same ∙ zero-units e) (units-pos n g (fitting binary64 false n g k))))
units_unique (fin false (suc m) e) (fin false zero g) h k p q same =
    absurd (lt_irrefl 0 (subst (λ (x : ℕ). 0 < x) (same ∙ zero-units g) (units-pos m e (fitting binary64 false m e h))))
units_unique (fin false (suc m) e) (fin false (suc n) g) h k p q same =
    let a = fitting binary64 false m e h in
    let b = fitting binary64 false n g k in
    let l = low binary64 in
    let r = odd_pow (suc m) (suc n) (place l e) (place l g) a.odd b.odd (sym (fits-units (suc m) e a) ∙ same ∙ fits-units (suc n) g b) in
    λ i. fin false (r.0 i) (place_inj l e g a.fine b.fine r.1 i)
