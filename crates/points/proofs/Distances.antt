-- What the watched steps give is finite, and a distance is at most 2 ^ 512, so that half the sum of two is finite and not below zero. Assumes nothing.
use mathlib.Core.Path.{◌≡◌, refl}
use mathlib.Core.Bool.{Bool, true, false, ◌&&◌, cond, false≢true}
use Prim.Native.Nat.{ℕ, zero, suc, ◌+◌, ◌*◌, ◌^◌, ◌≤◌, ◌<◌}
use native.Mathlib.Nat.{le_trans, le_of_lt, add-le-add, le_of_eq, mul-one, mul-lt-mul_of_pos_right}
use native.Mathlib.Omega.{arith}
use borrow.Author.Tests.{ltb-true, ltb-false}
use lib.Dec.{T, ltb, lit<, lit≤}
use lib.IntN.{pos}
use lib.Ieee.{Float, nan, inf, fin, binary64, low, up, down, round, fits, of_bits}
use lib.Ieee.Exact.{HasValue}
use lib.Ieee.Fits.{add-fits}
use lib.Ieee.Scale.{finite, grid, round_val, round_under}
use Rattle.std.specs.Prelude.{Ok, Err}
use Rattle.errors.specs.Answer.{Answer, watched, ◌>>=◌}
use Rattle.errors.specs.Numbers.{is_plus}
use Rattle.errors.specs.declared.Refusal.TheVariants.{NotFinite}
use Rattle.root.specs.Sqrt.{sqrt_of}
use Rattle.root.specs.Nearest.{magnitude, square}
use Rattle.root.proofs.digits.Correct.{sqrt-nearest}
use Rattle.root.proofs.digits.Kept.{sq_lt}
use Rattle.root.proofs.digits.Units.{fitting, units_lt, value-units}
use Rattle.points.specs.Numbers.{◌+f◌, ◌*f◌, f0, f½}
use Rattle.points.specs.Points.{watched_point, minus, dot_of, norm_of, dist_of}
use Rattle.points.specs.declared.Point2.{Point2}
use Rattle.points.specs.declared.Vector2.{Vector2}
use Rattle.points.proofs.Values.{add-value, mul-value}
use Rattle.points.proofs.Plus.{unit_pos, plus, sized, add-finite, round-plus, plus-add, plus-square, small-finite}

-- ---- what is watched

pub watched-finite : (x y : Float) → watched x ≡ Ok y → (x ≡ y) × T (finite x)
watched-finite x y e = go (finite x) refl e
  where
    go : (b : Bool) → finite x ≡ b → cond b (Ok x) (Err NotFinite) ≡ Ok y → (x ≡ y) × T (finite x)
    go true p e = (cc, rw p tt)
    go false p e = let z : ◌≡◌ {A = ℕ} 0 1 = cc in absurd (omega arith)

abbrev pub FinitePoint : Point2 → Type 0
FinitePoint p = T (finite p.x) × T (finite p.y)

pub point-finite : (p q : Point2) → watched_point p ≡ Ok q → FinitePoint q
point-finite p q e = go (finite p.x) (finite p.y) refl refl e
  where
    go : (a b : Bool) → finite p.x ≡ a → finite p.y ≡ b → cond (a && b) (Ok p) (Err NotFinite) ≡ Ok q → FinitePoint q
    go true true u v e = let z : q ≡ p = cc in rw z (rw u tt, rw v tt)
    go true false u v e = let z : ◌≡◌ {A = ℕ} 0 1 = cc in absurd (omega arith)
    go false b u v e = let z : ◌≡◌ {A = ℕ} 0 1 = cc in absurd (omega arith)

-- a vector's dot product with itself
pub square-finite : (v : Vector2) (d : Float) → dot_of v v ≡ Ok d → (v.x *f v.x +f v.y *f v.y ≡ d) × T (finite (v.x *f v.x +f v.y *f v.y))
unfolding dot_of
square-finite v d e = watched-finite (v.x *f v.x +f v.y *f v.y) d e

-- ---- a distance is at most 2 ^ 512: 2 ^ 1586 units

pub record Near (d : Float) : Type 0 where
  pub units : ℕ
  pub value : HasValue d false units (2 ^ low binary64)
  pub most : units ≤ 2 ^ 1586

pub zero_near : Near f0
unfolding of_bits
zero_near = record { units = 0; value = (refl, refl); most = lit≤ tt }

-- where the root of N lies on r's side of the middle of r and y, and below y, r isn't above y
not_beyond : (N R Y : ℕ) → N < Y * Y → (Y < R → (R + Y) * (R + Y) < 4 * N) → R ≤ Y
not_beyond N R Y h side = go (ltb Y R) refl
  where
    go : (b : Bool) → ltb Y R ≡ b → R ≤ Y
    go false e = ltb-false Y R e
    go true e = let g = ltb-true Y R e in absurd (omega (arith, side g, h, sq_lt {a = Y + Y} {b = R + Y} (omega (arith, g))))

no_value : (a b c : ℕ) → 0 * a * b ≡ 0 * c
no_value a b c = omega arith

plus_of : (x : Float) → finite x ≡ true → is_plus x ≡ true → T (plus x) × T (finite x)
plus_of nan e f = absurd (false≢true e)
plus_of (inf s) e f = absurd (false≢true e)
plus_of (fin s m d) e f = (rw f tt, tt)

limit_fits : T (fits binary64 (fin false 1 (pos 512)))
unfolding fits
limit_fits = tt

root_near : (x : Float) → T (fits binary64 x) → T (plus x) → T (finite x) → Near (sqrt_of x)
unfolding sqrt_of
root_near nan f p t = absurd t
root_near (inf s) f p t = absurd t
root_near (fin true m e) f p t = absurd p
root_near (fin false zero e) f p t = record { units = 0; value = (refl, no_value (up e) (2 ^ low binary64) (down e)); most = lit≤ tt }
root_near (fin false (suc m) e) f p t =
    let x = fin false (suc m) e in
    let r = sqrt-nearest m e f in
    let q = plus_of (sqrt_of x) r.is_finite r.plus in
    let s = sized (sqrt_of x) r.value q.0 q.1 in
    let n = s.digits * 2 ^ s.exponent in
    let is : magnitude (sqrt_of x) ≡ n = value-units (sqrt_of x) false n s.value in
    let small : square x < 2 ^ 1586 * 2 ^ 1586 = mul-lt-mul_of_pos_right {k = 2 ^ low binary64} (units_lt (suc m) e (fitting binary64 false m e f)) unit_pos in
    record { units = n; value = s.value; most = rw (← is) (not_beyond (square x) (magnitude (sqrt_of x)) (2 ^ 1586) small (r.nearer (fin false 1 (pos 512)) limit_fits).1) }

pub dist_near : (a b : Point2) (d : Float) → dist_of a b ≡ Ok d → Near d
unfolding dist_of norm_of
dist_near a b d e = go (dot_of v v) refl e
  where
    v : Vector2
    v = minus a b

    go : (x : Answer Float) → dot_of v v ≡ x → (x >>= λ y. watched (sqrt_of y)) ≡ Ok d → Near d
    go (Err n) is e = let z : ◌≡◌ {A = ℕ} 0 1 = cc in absurd (omega arith)
    go (Ok y) is e =
        let w = square-finite v y is in
        let xy = add-finite (v.x *f v.x) (v.y *f v.y) w.1 in
        let p = plus-add (v.x *f v.x) (v.y *f v.y) (plus-square v.x xy.0) (plus-square v.y xy.1) w.1 in
        let r = watched-finite (sqrt_of y) d e in
        rw (← r.0, ← w.0) (root_near (v.x *f v.x +f v.y *f v.y) (add-fits binary64 (v.x *f v.x) (v.y *f v.y)) p w.1)

-- ---- half the sum of two

half_value : HasValue f½ false 1 2
unfolding of_bits
half_value = (refl, refl)

pub mean_near : (d e : Float) → Near d → Near e → T (finite ((d +f e) *f f½)) × T (plus ((d +f e) *f f½))
mean_near d e p q =
    let n = p.units + q.units in
    let U = 2 ^ low binary64 in
    let fine = small-finite n U unit_pos (le_trans (add-le-add p.most q.most) (lit≤ tt)) in
    let under = round_under binary64 n U fine in
    let g = grid binary64 n U in
    let is = add-value d e p.units q.units U unit_pos p.value q.value in
    let half : round binary64 false n U *f f½ ≡ round binary64 false (g * 1) (U * 2) = mul-value (round binary64 false n U) f½ g 1 U 2 unit_pos (lit< tt) (round_val binary64 n U under) half_value in
    rw (is, half) (small-finite (g * 1) (U * 2) (lit< tt) (le_trans (le_of_eq (mul-one g)) (le_of_lt under)), round-plus (g * 1) (U * 2))
