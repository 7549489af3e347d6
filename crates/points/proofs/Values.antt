-- Operations of binary64 on values at or above zero: each rounds the fraction that it stands for. Assumes nothing.
use mathlib.Core.Path.{◌≡◌, ap, ap₂, sym, subst}
use mathlib.Core.Bool.{false}
use Prim.Native.Nat.{ℕ, ◌+◌, ◌-◌, ◌*◌, ◌≤◌, ◌<◌}
use native.Mathlib.Nat.{mul-pos, le_of_mul-le-mul_right, eq_of_mul-eq-mul_right}
use native.Mathlib.Omega.{arith}
use borrow.Author.Tests.{le-ltb, ne_eqb}
use lib.Ieee.{Float, nan, inf, fin, binary64, up, down, round, sum, add, sub, mul, div, neg}
use lib.Ieee.Exact.{HasValue}
use lib.Ieee.Fits.{down_pos}
use lib.Ieee.Positive.{first_pos}
use lib.Ieee.Scale.{round_same}
use Rattle.points.specs.Numbers.{◌+f◌, ◌-f◌, ◌*f◌, ◌/f◌}

pub add-value : (x y : Float) (a b c : ℕ) → 0 < c → HasValue x false a c → HasValue y false b c → x +f y ≡ round binary64 false (a + b) c
unfolding add sum
add-value nan y a b c C v w = absurd v
add-value (inf s) y a b c C v w = absurd v
add-value (fin s m e) nan a b c C v w = absurd w
add-value (fin s m e) (inf t) a b c C v w = absurd w
add-value (fin s m e) (fin t n d) a b c C v w =
    rw (v.0, w.0)
    (round_same binary64 false (m * up e * down d + n * up d * down e) (down e * down d) (a + b) c (mul-pos (down_pos e) (down_pos d)) C
    (same (m * up e) (n * up d) (down e) (down d) v.1 w.1))
  where
    same : (M N E D : ℕ) → M * c ≡ a * E → N * c ≡ b * D → (M * D + N * E) * c ≡ (a + b) * (E * D)
    same M N E D p q = omega (arith, ap (λ (z : ℕ). z * D) p, ap (λ (z : ℕ). z * E) q)

-- (b + g) - b
pub sub-value : (x y : Float) (b g c : ℕ) → 0 < c → HasValue x false (b + g) c → HasValue y false b c → x -f y ≡ round binary64 false g c
unfolding sub add neg sum
sub-value nan y b g c C v w = absurd v
sub-value (inf s) y b g c C v w = absurd v
sub-value (fin s m e) nan b g c C v w = absurd w
sub-value (fin s m e) (inf t) b g c C v w = absurd w
sub-value (fin s m e) (fin t n d) b g c C v w =
    let A = m * up e * down d in
    let B = n * up d * down e in
    let ED = down e * down d in
    let p : A * c ≡ (b + g) * ED = one (m * up e) (down e) (down d) (b + g) v.1 in
    let q : B * c ≡ b * ED = other (n * up d) (down e) (down d) b w.1 in
    let le : B ≤ A = le_of_mul-le-mul_right (omega (arith, p, q)) C in
    rw (v.0, w.0, le-ltb A B le)
    (round_same binary64 false (A - B) ED g c (mul-pos (down_pos e) (down_pos d)) C (rest A B ED le p q))
  where
    one : (M E D a : ℕ) → M * c ≡ a * E → M * D * c ≡ a * (E * D)
    one M E D a h = omega (arith, ap (λ (z : ℕ). z * D) h)

    other : (N E D a : ℕ) → N * c ≡ a * D → N * E * c ≡ a * (E * D)
    other N E D a h = omega (arith, ap (λ (z : ℕ). z * E) h)

    left : (A B G T : ℕ) → A ≡ B + G → A * c ≡ (b + g) * T → B * c ≡ b * T → G * c ≡ g * T
    left A B G T h p q = omega (arith, ap (λ (z : ℕ). z * c) h)

    rest : (A B T : ℕ) → B ≤ A → A * c ≡ (b + g) * T → B * c ≡ b * T → (A - B) * c ≡ g * T
    rest A B T h p q = left A B (A - B) T (omega arith) p q

pub mul-value : (x y : Float) (a b c k : ℕ) → 0 < c → 0 < k → HasValue x false a c → HasValue y false b k → x *f y ≡ round binary64 false (a * b) (c * k)
unfolding mul
mul-value nan y a b c k C K v w = absurd v
mul-value (inf s) y a b c k C K v w = absurd v
mul-value (fin s m e) nan a b c k C K v w = absurd w
mul-value (fin s m e) (inf t) a b c k C K v w = absurd w
mul-value (fin s m e) (fin t n d) a b c k C K v w =
    rw (v.0, w.0)
    (round_same binary64 false (m * up e * (n * up d)) (down e * down d) (a * b) (c * k) (mul-pos (down_pos e) (down_pos d)) (mul-pos C K)
    (same (m * up e) (n * up d) (down e) (down d) v.1 w.1))
  where
    same : (M N E D : ℕ) → M * c ≡ a * E → N * k ≡ b * D → M * N * (c * k) ≡ a * b * (E * D)
    same M N E D p q = omega (arith, ap₂ ◌*◌ p q)

-- a / b, for a b above zero
pub div_value : (x y : Float) (a b c : ℕ) → 0 < c → 0 < b → HasValue x false a c → HasValue y false b c → x /f y ≡ round binary64 false a b
unfolding div
div_value nan y a b c C B v w = absurd v
div_value (inf s) y a b c C B v w = absurd v
div_value (fin s m e) nan a b c C B v w = absurd w
div_value (fin s m e) (inf t) a b c C B v w = absurd w
div_value (fin s m e) (fin t n d) a b c C B v w =
    rw (v.0, w.0, ne_eqb n 0 (λ z. some z w.1))
    (round_same binary64 false (m * up e * down d) (n * up d * down e) a b above B
    (eq_of_mul-eq-mul_right c C (m * up e * down d * b) (a * (n * up d * down e)) (same (m * up e) (n * up d) (down e) (down d) v.1 w.1)))
  where
    some : n ≡ 0 → n * up d * c ≡ b * down d → ⊥
    some z h = let p : 0 < b * down d = mul-pos B (down_pos d) in omega (arith, p, h, ap (λ (x : ℕ). x * up d * c) z)

    above : 0 < n * up d * down e
    above = mul-pos (first_pos (n * up d) c (subst (λ (z : ℕ). 0 < z) (sym w.1) (mul-pos B (down_pos d)))) (down_pos e)

    same : (M N E D : ℕ) → M * c ≡ a * E → N * c ≡ b * D → M * D * b * c ≡ a * (N * E) * c
    same M N E D p q = omega (arith, ap (λ (z : ℕ). z * (D * b)) p, ap (λ (z : ℕ). z * (a * E)) q)
