-- Laws of places: where a byte of a row goes, and that it comes back from there. Assumes nothing.
use mathlib.Core.Path.{◌≡◌, ◌∙◌, sym, ap}
use Prim.Native.Nat.{ℕ, zero, suc, ◌+◌, ◌*◌, ◌/◌, ◌%◌, ◌<◌}
use native.Mathlib.Nat.{mod-lt, mod-eq_of_lt, div-eq_of_lt, div-lt_iff_lt-mul, mod-add-div', add-mul-mod_self_right, add-mul-div_right, mul-le-mul_right, add_comm}
use native.Mathlib.Omega.{arith}
use Rattle.shuffle.specs.Shuffle.{place}

-- place i × n + k is below all m × n
pub place-bound : (m n i k : ℕ) → i < m → k < n → i * n + k < m * n
place-bound m n i k h l = omega (arith, mul-le-mul_right {m = suc i} {n = m} n h)

-- place i × n + k is place k of row i
module _ (n i k : ℕ) (h : k < n) where
  pub place_column : (i * n + k) % n ≡ k
  place_column = rw (add_comm (i * n) k, add-mul-mod_self_right k i n) (mod-eq_of_lt h)

  pub place-row : (i * n + k) / n ≡ i
  place-row = rw (add_comm (i * n) k, add-mul-div_right k i {z = n} (omega arith), div-eq_of_lt h) (omega arith)

some : (m n p : ℕ) → p < n * m → 0 < m
some zero n p h = absurd (omega arith)
some (suc m) n p h = omega arith

module _ (m n p : ℕ) (h : p < n * m) where
  column : p % m < m
  column = mod-lt p (some m n p h)

  row : p / m < n
  row = (div-lt_iff_lt-mul (some m n p h)).1 h

  pub place_below : place m n p < m * n
  place_below = place-bound m n (p % m) (p / m) column row

  pub place-back : place n m (place m n p) ≡ p
  place-back = rw (place_column n (p % m) (p / m) row, place-row n (p % m) (p / m) row) (omega (arith, mod-add-div' p m))

pub place_distinct : (m n p q : ℕ) → p < n * m → q < n * m → place m n p ≡ place m n q → p ≡ q
place_distinct m n p q h l e = sym (place-back m n p h) ∙ ap (place n m) e ∙ place-back m n q l
