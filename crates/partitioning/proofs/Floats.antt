-- A place inside an interval of lengths, in binary64: by its fraction it lies no earlier than the interval's start and no later than its end. Assumes nothing.
use mathlib.Core.Path.{◌≡◌, refl, sym, ap, ◌∙◌, subst}
use mathlib.Core.Bool.{Bool, true, false, ◌&&◌, ◌||◌, true≢false}
use Prim.Native.Nat.{ℕ, suc, ◌+◌, ◌-◌, ◌*◌, ◌^◌, ◌≤◌, ◌<◌}
use native.Mathlib.Nat.{mul-pos, add-sub_of_le, add-zero, le-add_right, le_trans, le_of_eq, mul-one, mul-le-mul_right, le_of_mul-le-mul_right, eq_of_mul-eq-mul_right}
use native.Mathlib.Omega.{arith}
use borrow.Author.Tests.{ltb-true, ltb-false, le-ltb}
use lib.Dec.{T, ltb, eqb}
use lib.Pow.{pow_pos, pow-add}
use lib.Ieee.{Float, nan, inf, fin, binary64, low, emax, up, down, round, lt, le, eq}
use lib.Ieee.Bits.{is_true}
use lib.Ieee.Exact.{HasValue}
use lib.Ieee.Fits.{down_pos}
use lib.Ieee.Order.{le_of_values, transfer}
use lib.Ieee.Positive.{num, den, den_pos}
use lib.Ieee.Scale.{grid, overflow, finite, round_val, round_under}
use Rattle.points.specs.Numbers.{◌+f◌, ◌-f◌, ◌*f◌, ◌/f◌, f0}
use Rattle.points.proofs.Values.{add-value, sub-value, mul-value, div_value}
use Rattle.points.proofs.Plus.{unit_pos, Size, plus, div-finite, add-finite, mul-finite, valued_plus, own_value, f0-value}
use Rattle.partitioning.proofs.Rounding.{rounded, rounded_same, rounded_order, rounded_exact, rounded_pos, not_passed, way_inside}

-- ---- their order is that of their sizes

module _ (x y : Float) (a b : ℕ) (v : HasValue x false a (2 ^ low binary64)) (w : HasValue y false b (2 ^ low binary64)) where
  pub size-le : a ≤ b → le x y ≡ true
  size-le h = is_true (le x y) (le_of_values x y a (2 ^ low binary64) b (2 ^ low binary64) unit_pos unit_pos v w (mul-le-mul_right (2 ^ low binary64) h))

order_by_sizes : (m n E D a b U : ℕ) → 0 < E → 0 < D → 0 < U → m * U ≡ a * E → n * U ≡ b * D → m * D ≤ n * E → a ≤ b
order_by_sizes m n E D a b U e d u p q h = le_of_mul-le-mul_right (transfer a b U U m n E D e d (sym p) (sym q) h) u

pub size-not-lt : (x y : Float) (a b : ℕ) → HasValue x false a (2 ^ low binary64) → HasValue y false b (2 ^ low binary64) → a ≤ b → lt y x ≡ false
unfolding lt
size-not-lt nan y a b v w h = absurd v
size-not-lt (inf s) y a b v w h = absurd v
size-not-lt (fin s m e) nan a b v w h = absurd w
size-not-lt (fin s m e) (inf t) a b v w h = absurd w
size-not-lt (fin s m e) (fin t n d) a b v w h =
    rw (v.0, w.0)
    (le-ltb (n * up d * down e) (m * up e * down d)
    (transfer (m * up e) (n * up d) (down e) (down d) a b (2 ^ low binary64) (2 ^ low binary64) unit_pos unit_pos v.1 w.1 (mul-le-mul_right (2 ^ low binary64) h)))

pub not-lt-size : (x y : Float) (a b : ℕ) → HasValue x false a (2 ^ low binary64) → HasValue y false b (2 ^ low binary64) → lt y x ≡ false → a ≤ b
unfolding lt
not-lt-size nan y a b v w h = absurd v
not-lt-size (inf s) y a b v w h = absurd v
not-lt-size (fin s m e) nan a b v w h = absurd w
not-lt-size (fin s m e) (inf t) a b v w h = absurd w
not-lt-size (fin s m e) (fin t n d) a b v w h =
    order_by_sizes (m * up e) (n * up d) (down e) (down d) a b (2 ^ low binary64) (down_pos e) (down_pos d) unit_pos v.1 w.1
    (ltb-false (n * up d * down e) (m * up e * down d) (rw (v.0, w.0) at h))

pub lt_size : (x y : Float) (a b : ℕ) → HasValue x false a (2 ^ low binary64) → HasValue y false b (2 ^ low binary64) → lt x y ≡ true → a < b
lt_size x y a b v w h = go (ltb a b) refl
  where
    go : (t : Bool) → ltb a b ≡ t → a < b
    go true e = ltb-true a b e
    go false e = (let z : ◌≡◌ {A = Bool} true false = sym h ∙ size-not-lt y x b a w v (ltb-false a b e) in absurd (true≢false z))

-- ---- a place in an interval of lengths

-- what a rounded fraction is, in units
rounded_value : (a c : ℕ) → T (finite (round binary64 false a c)) → HasValue (round binary64 false a c) false (rounded (a * 2 ^ low binary64) c) (2 ^ low binary64)
rounded_value a c t = round_val binary64 a c (round_under binary64 a c t)

whole_units : (W U : ℕ) → 0 < U → rounded (W * U) U ≡ rounded W 1
whole_units W U h = rounded_same (W * U) U W 1 h (omega arith) (omega arith)

-- a whole number of units, rounded
units-value : (W : ℕ) → T (finite (round binary64 false W (2 ^ low binary64))) → HasValue (round binary64 false W (2 ^ low binary64)) false (rounded W 1) (2 ^ low binary64)
units-value W t = subst (λ (z : ℕ). HasValue (round binary64 false W (2 ^ low binary64)) false z (2 ^ low binary64)) (whole_units W (2 ^ low binary64) unit_pos) (rounded_value W (2 ^ low binary64) t)

-- 53 digits are not changed
kept-size : (a j : ℕ) → a < 2 ^ 53 → rounded (a * 2 ^ j) 1 ≡ a * 2 ^ j
kept-size a j h = ap (λ (z : ℕ). rounded z 1) (sym (mul-one (a * 2 ^ j))) ∙ rounded_exact 1 a j (omega arith) h

as_value : (x y : Float) (a c : ℕ) → x ≡ y → HasValue y false a c → HasValue x false a c
as_value x y a c e v = rw e v

as_finite : (x y : Float) → x ≡ y → T (finite x) → T (finite y)
as_finite x y e t = rw (← e) t

no_units : (n c U : ℕ) → 0 < c → rounded (n * 0 * U) c ≡ 0
no_units n c U h = omega (arith, not_passed (n * 0 * U) c 0 0 h (omega arith) (omega arith))

module _ (m : Float) (s : Size m) (d : Float) (p : T (plus d)) (q : T (finite d)) where
  -- nothing of the way
  no_way : HasValue (d *f f0) false 0 (2 ^ low binary64)
  no_way =
      let e = mul-value d f0 (num d) 0 (den d) 1 (den_pos d) (omega arith) (own_value d p q) f0-value in
      let z = no_units (num d) (den d * 1) (2 ^ low binary64) (mul-pos (den_pos d) (omega arith)) in
      let under : grid binary64 (num d * 0) (den d * 1) < overflow binary64 = rw z (pow_pos (low binary64 + suc (emax binary64))) in
      as_value (d *f f0) (round binary64 false (num d * 0) (den d * 1)) 0 (2 ^ low binary64) e (rw z at (round_val binary64 (num d * 0) (den d * 1) under))

  -- at the start of the interval
  pub at_start : T (finite (m +f d *f f0)) → HasValue (m +f d *f f0) false (s.digits * 2 ^ s.exponent) (2 ^ low binary64)
  at_start t =
      let W = s.digits * 2 ^ s.exponent in
      let e = add-value m (d *f f0) W 0 (2 ^ low binary64) unit_pos s.value no_way in
      let r = units-value (W + 0) (as_finite (m +f d *f f0) (round binary64 false (W + 0) (2 ^ low binary64)) e t) in
      let z : rounded (W + 0) 1 ≡ W = ap (λ (z : ℕ). rounded z 1) (add-zero W) ∙ kept-size s.digits s.exponent s.few in
      as_value (m +f d *f f0) (round binary64 false (W + 0) (2 ^ low binary64)) W (2 ^ low binary64) e (rw z at r)

-- the size of a number that is W or more; that is W or less
pub record Above (x : Float) (W : ℕ) : Type 0 where
  pub units : ℕ
  pub value : HasValue x false units (2 ^ low binary64)
  pub least : W ≤ units

pub record Below (x : Float) (W : ℕ) : Type 0 where
  pub units : ℕ
  pub value : HasValue x false units (2 ^ low binary64)
  pub most : units ≤ W

module _ (m : Float) (s : Size m) (d : Float) (p : T (plus d)) where
  -- anywhere in the interval
  pub not-before : (f : Float) (a c : ℕ) → 0 < c → HasValue f false a c → T (finite (m +f d *f f)) → Above (m +f d *f f) (s.digits * 2 ^ s.exponent)
  not-before f a c C v t =
      let W = s.digits * 2 ^ s.exponent in
      let way = (add-finite m (d *f f) t).1 in
      let q = (mul-finite d f way).0 in
      let e = mul-value d f (num d) a (den d) c (den_pos d) C (own_value d p q) v in
      let A = rounded (num d * a * 2 ^ low binary64) (den d * c) in
      let w : HasValue (d *f f) false A (2 ^ low binary64) = as_value (d *f f) (round binary64 false (num d * a) (den d * c)) A (2 ^ low binary64) e (rounded_value (num d * a) (den d * c) (as_finite (d *f f) (round binary64 false (num d * a) (den d * c)) e way)) in
      let g = add-value m (d *f f) W A (2 ^ low binary64) unit_pos s.value w in
      record {
        units = rounded (W + A) 1;
        value = as_value (m +f d *f f) (round binary64 false (W + A) (2 ^ low binary64)) (rounded (W + A) 1) (2 ^ low binary64) g (units-value (W + A) (as_finite (m +f d *f f) (round binary64 false (W + A) (2 ^ low binary64)) g t));
        least = le_trans (le_of_eq (sym (kept-size s.digits s.exponent s.few))) (rounded_order W (W + A) (le-add_right W A));
      }

-- ---- a place that was found by its length

-- as many units to one as `way_inside` has them
unit_split : 2 ^ low binary64 ≡ 2 ^ 53 * 2 ^ 1021
unit_split = pow-add 2 53 1021

more : {a b : ℕ} (c : ℕ) → a ≤ b → c + a ≤ c + b
more c h = omega (arith, h)

one_unit_less : (n U : ℕ) → 0 < U → rounded (n * U) (U * U) ≡ rounded n U
one_unit_less n U h = rounded_same (n * U) (U * U) n U (mul-pos h h) h (omega arith)

module _ (m n l : Float) (sm : Size m) (sn : Size n) (sl : Size l) (K K₀ : ℕ)
    (end : sm.digits * 2 ^ sm.exponent + K ≡ sn.digits * 2 ^ sn.exponent) (place : sm.digits * 2 ^ sm.exponent + K₀ ≡ sl.digits * 2 ^ sl.exponent) (inside : K₀ < K)
    (t : T (finite (m +f (n -f m) *f ((l -f m) /f (n -f m))))) where
  way_finite : T (finite ((n -f m) *f ((l -f m) /f (n -f m))))
  way_finite = (add-finite m ((n -f m) *f ((l -f m) /f (n -f m))) t).1

  length_is : n -f m ≡ round binary64 false K (2 ^ low binary64)
  length_is = sub-value n m (sm.digits * 2 ^ sm.exponent) K (2 ^ low binary64) unit_pos (rw end sn.value) sm.value

  length-value : HasValue (n -f m) false (rounded K 1) (2 ^ low binary64)
  length-value =
      let q = (mul-finite (n -f m) ((l -f m) /f (n -f m)) way_finite).0 in
      as_value (n -f m) (round binary64 false K (2 ^ low binary64)) (rounded K 1) (2 ^ low binary64) length_is (units-value K (as_finite (n -f m) (round binary64 false K (2 ^ low binary64)) length_is q))

  part_is : l -f m ≡ round binary64 false K₀ (2 ^ low binary64)
  part_is = sub-value l m (sm.digits * 2 ^ sm.exponent) K₀ (2 ^ low binary64) unit_pos (rw place sl.value) sm.value

  fraction-finite : T (finite ((l -f m) /f (n -f m)))
  fraction-finite = (mul-finite (n -f m) ((l -f m) /f (n -f m)) way_finite).1

  part_value : HasValue (l -f m) false (rounded K₀ 1) (2 ^ low binary64)
  part_value =
      let q = div-finite (l -f m) (n -f m) fraction-finite in
      as_value (l -f m) (round binary64 false K₀ (2 ^ low binary64)) (rounded K₀ 1) (2 ^ low binary64) part_is (units-value K₀ (as_finite (l -f m) (round binary64 false K₀ (2 ^ low binary64)) part_is q))

  fraction_is : (l -f m) /f (n -f m) ≡ round binary64 false (rounded K₀ 1) (rounded K 1)
  fraction_is = div_value (l -f m) (n -f m) (rounded K₀ 1) (rounded K 1) (2 ^ low binary64) unit_pos (rounded_pos K (omega (arith, inside))) part_value length-value

  pub fraction-value : HasValue ((l -f m) /f (n -f m)) false (rounded (rounded K₀ 1 * 2 ^ low binary64) (rounded K 1)) (2 ^ low binary64)
  fraction-value =
      as_value ((l -f m) /f (n -f m)) (round binary64 false (rounded K₀ 1) (rounded K 1)) (rounded (rounded K₀ 1 * 2 ^ low binary64) (rounded K 1)) (2 ^ low binary64) fraction_is
      (rounded_value (rounded K₀ 1) (rounded K 1) (as_finite ((l -f m) /f (n -f m)) (round binary64 false (rounded K₀ 1) (rounded K 1)) fraction_is fraction-finite))

  pub length-plus : T (plus (n -f m))
  length-plus = valued_plus (n -f m) (rounded K 1) (2 ^ low binary64) length-value

  -- the way, and where it leads
  way_is : (n -f m) *f ((l -f m) /f (n -f m)) ≡ round binary64 false (rounded K 1 * rounded (rounded K₀ 1 * 2 ^ low binary64) (rounded K 1)) (2 ^ low binary64 * 2 ^ low binary64)
  way_is = mul-value (n -f m) ((l -f m) /f (n -f m)) (rounded K 1) (rounded (rounded K₀ 1 * 2 ^ low binary64) (rounded K 1)) (2 ^ low binary64) (2 ^ low binary64) unit_pos unit_pos length-value fraction-value

  way_value : HasValue ((n -f m) *f ((l -f m) /f (n -f m))) false (rounded (rounded K 1 * rounded (rounded K₀ 1 * 2 ^ low binary64) (rounded K 1)) (2 ^ low binary64)) (2 ^ low binary64)
  way_value =
      let n₂ = rounded K 1 * rounded (rounded K₀ 1 * 2 ^ low binary64) (rounded K 1) in
      as_value ((n -f m) *f ((l -f m) /f (n -f m))) (round binary64 false n₂ (2 ^ low binary64 * 2 ^ low binary64)) (rounded n₂ (2 ^ low binary64)) (2 ^ low binary64) way_is
      (subst (λ (z : ℕ). HasValue (round binary64 false n₂ (2 ^ low binary64 * 2 ^ low binary64)) false z (2 ^ low binary64)) (one_unit_less n₂ (2 ^ low binary64) unit_pos)
      (rounded_value n₂ (2 ^ low binary64 * 2 ^ low binary64) (as_finite ((n -f m) *f ((l -f m) /f (n -f m))) (round binary64 false n₂ (2 ^ low binary64 * 2 ^ low binary64)) way_is way_finite)))

  way_most : rounded (rounded K 1 * rounded (rounded K₀ 1 * 2 ^ low binary64) (rounded K 1)) (2 ^ low binary64) ≤ K
  way_most =
      subst (λ (u : ℕ). rounded (rounded K 1 * rounded (rounded K₀ 1 * u) (rounded K 1)) u ≤ K) (sym unit_split)
      (way_inside (sm.digits * 2 ^ sm.exponent) K K₀ sn.digits sn.exponent sl.digits sl.exponent sn.few end sl.few place inside 1021)

  pub not_behind : Below (m +f (n -f m) *f ((l -f m) /f (n -f m))) (sn.digits * 2 ^ sn.exponent)
  not_behind =
      let P = rounded (rounded K 1 * rounded (rounded K₀ 1 * 2 ^ low binary64) (rounded K 1)) (2 ^ low binary64) in
      let W = sm.digits * 2 ^ sm.exponent in
      let x = m +f (n -f m) *f ((l -f m) /f (n -f m)) in
      let e : x ≡ round binary64 false (W + P) (2 ^ low binary64) = add-value m ((n -f m) *f ((l -f m) /f (n -f m))) W P (2 ^ low binary64) unit_pos sm.value way_value in
      record {
        units = rounded (W + P) 1;
        value = as_value x (round binary64 false (W + P) (2 ^ low binary64)) (rounded (W + P) 1) (2 ^ low binary64) e (units-value (W + P) (as_finite x (round binary64 false (W + P) (2 ^ low binary64)) e t));
        most = not_passed (W + P) 1 sn.digits sn.exponent (omega arith) sn.few (le_trans (more W way_most) (le_trans (le_of_eq end) (le_of_eq (sym (mul-one (sn.digits * 2 ^ sn.exponent))))));
      }

-- ---- which numbers lie in an interval

pub interval_plus : (m n : Float) (sm : Size m) (sn : Size n) → sm.digits * 2 ^ sm.exponent ≤ sn.digits * 2 ^ sn.exponent → T (finite (n -f m)) → T (plus (n -f m))
interval_plus m n sm sn h t =
    let K = sn.digits * 2 ^ sn.exponent - sm.digits * 2 ^ sm.exponent in
    let end : sm.digits * 2 ^ sm.exponent + K ≡ sn.digits * 2 ^ sn.exponent = add-sub_of_le h in
    let is : n -f m ≡ round binary64 false K (2 ^ low binary64) = sub-value n m (sm.digits * 2 ^ sm.exponent) K (2 ^ low binary64) unit_pos (rw end sn.value) sm.value in
    let v = as_value (n -f m) (round binary64 false K (2 ^ low binary64)) (rounded K 1) (2 ^ low binary64) is (units-value K (as_finite (n -f m) (round binary64 false K (2 ^ low binary64)) is t)) in
    valued_plus (n -f m) (rounded K 1) (2 ^ low binary64) v

sum-zero : (a b : ℕ) → ltb 0 (a + b) ≡ false → (eqb b a && (false || eqb b 0)) ≡ true
sum-zero a b h =
    let z = ltb-false 0 (a + b) h in
    let p : a ≡ 0 = omega (arith, z) in
    let q : b ≡ 0 = omega (arith, z) in
    rw (p, q)

-- neither below m nor equal to it, and below n
pub plus-between : (m l n : Float) → T (plus m) → T (finite m) → lt l m ≡ false → eq m l ≡ false → T (lt l n) → T (plus l) × T (finite l)
unfolding lt eq
plus-between nan l n p q a b h = absurd p
plus-between (inf s) l n p q a b h = absurd q
plus-between (fin true m e) l n p q a b h = absurd p
plus-between (fin false m e) nan n p q a b h = absurd h
plus-between (fin false m e) (inf true) n p q a b h = absurd (true≢false a)
plus-between (fin false m e) (inf false) nan p q a b h = absurd h
plus-between (fin false m e) (inf false) (inf t) p q a b h = absurd h
plus-between (fin false m e) (inf false) (fin t k d) p q a b h = absurd h
plus-between (fin false m e) (fin true k d) n p q a b h = absurd (true≢false (sym (sum-zero (k * up d * down e) (m * up e * down d) a) ∙ b))
plus-between (fin false m e) (fin false k d) n p q a b h = (tt, tt)

-- one number has one size
pub size_unique : (x : Float) (a b : ℕ) → HasValue x false a (2 ^ low binary64) → HasValue x false b (2 ^ low binary64) → a ≡ b
size_unique nan a b v w = absurd v
size_unique (inf s) a b v w = absurd v
size_unique (fin s m e) a b v w = eq_of_mul-eq-mul_right (down e) (down_pos e) a b (sym v.1 ∙ w.1)
